use Rattle.store_laws.proofs.Grammar as laws
use Rattle.store_laws.proofs.store_is_read.Goals as goal

pub returns : goal.returns
returns c = laws.store_is_read
