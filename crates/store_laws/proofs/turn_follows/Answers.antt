use Rattle.store_laws.proofs.Following as laws
use Rattle.store_laws.proofs.turn_follows.Goals as goal

pub returns : goal.returns
returns c = laws.turn_follows
