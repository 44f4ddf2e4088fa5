use Rattle.safety_laws.proofs.Decisions.{settled_stood}
use Rattle.safety_laws.proofs.settled_stood.Goals as goal

pub returns : goal.returns
returns c = settled_stood
