use Rattle.safety_laws.proofs.Decisions.{delivers_within_cut}
use Rattle.safety_laws.proofs.delivers_within_cut.Goals as goal

pub returns : goal.returns
returns c = delivers_within_cut
