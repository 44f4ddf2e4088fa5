use Rattle.safety_laws.proofs.Decisions.{end_stood}
use Rattle.safety_laws.proofs.end_stood.Goals as goal

pub returns : goal.returns
returns c = end_stood
