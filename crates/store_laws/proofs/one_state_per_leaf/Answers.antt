use Rattle.store_laws.proofs.Leaves as laws
use Rattle.store_laws.proofs.one_state_per_leaf.Goals as goal

pub returns : goal.returns
returns c = laws.one_state_per_leaf
