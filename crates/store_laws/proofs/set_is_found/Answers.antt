use Rattle.store_laws.proofs.Maps as laws
use Rattle.store_laws.proofs.set_is_found.Goals as goal

pub returns : goal.returns
returns c = laws.set_is_found
