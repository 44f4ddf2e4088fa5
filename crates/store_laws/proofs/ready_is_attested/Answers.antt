use Rattle.store_laws.proofs.Transferring as laws
use Rattle.store_laws.proofs.ready_is_attested.Goals as goal

pub returns : goal.returns
returns c = laws.ready_is_attested
