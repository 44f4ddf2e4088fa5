use Rattle.witness_laws.proofs.Taken.{taken_convicts}
use Rattle.witness_laws.proofs.taken_convicts.Goals as goal

pub returns : goal.returns
returns c = taken_convicts
