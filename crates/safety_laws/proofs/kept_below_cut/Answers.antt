use Rattle.safety_laws.proofs.KeptBelowCut.{kept_below_cut}
use Rattle.safety_laws.proofs.kept_below_cut.Goals as goal

pub returns : goal.returns
returns c = kept_below_cut
