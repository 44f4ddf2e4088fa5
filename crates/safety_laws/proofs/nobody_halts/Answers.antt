use Rattle.safety_laws.proofs.Decisions.{nobody_halts}
use Rattle.safety_laws.proofs.nobody_halts.Goals as goal

pub returns : goal.returns
returns c = nobody_halts
