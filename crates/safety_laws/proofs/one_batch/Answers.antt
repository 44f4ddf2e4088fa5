use Rattle.safety_laws.proofs.Agreeing.{one_batch}
use Rattle.safety_laws.proofs.one_batch.Goals as goal

pub returns : goal.returns
returns c = one_batch
