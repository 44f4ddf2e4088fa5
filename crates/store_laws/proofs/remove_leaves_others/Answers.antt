use Rattle.store_laws.proofs.Maps as laws
use Rattle.store_laws.proofs.remove_leaves_others.Goals as goal

pub returns : goal.returns
returns c = laws.remove_leaves_others
