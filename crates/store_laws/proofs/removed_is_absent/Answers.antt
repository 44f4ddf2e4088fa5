use Rattle.store_laws.proofs.Maps as laws
use Rattle.store_laws.proofs.removed_is_absent.Goals as goal

pub returns : goal.returns
returns c = laws.removed_is_absent
