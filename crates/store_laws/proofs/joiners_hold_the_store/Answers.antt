use Rattle.store_laws.proofs.Joining as laws
use Rattle.store_laws.proofs.joiners_hold_the_store.Goals as goal

pub returns : goal.returns
returns c = laws.joiners_hold_the_store
