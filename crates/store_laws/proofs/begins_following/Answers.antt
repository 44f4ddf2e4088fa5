use Rattle.store_laws.proofs.Following as laws
use Rattle.store_laws.proofs.begins_following.Goals as goal

pub returns : goal.returns
returns c = laws.begins_following
