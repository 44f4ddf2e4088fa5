use Rattle.store_laws.proofs.Leaves as laws
use Rattle.store_laws.proofs.one_body_per_leaf.Goals as goal

pub returns : goal.returns
returns c = laws.one_body_per_leaf
