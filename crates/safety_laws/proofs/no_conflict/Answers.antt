use Rattle.safety_laws.proofs.NoConflict.{no_conflict}
use Rattle.safety_laws.proofs.no_conflict.Goals as goal

pub returns : goal.returns
returns c = no_conflict
