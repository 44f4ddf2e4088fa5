use Rattle.guard_laws.proofs.Accusing.{runs_can_accuse}
use Rattle.guard_laws.proofs.runs_can_accuse.Goals as goal

pub returns : goal.returns
returns c = runs_can_accuse
