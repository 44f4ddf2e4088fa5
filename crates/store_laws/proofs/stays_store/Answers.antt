use Rattle.store_laws.proofs.Staying as laws
use Rattle.store_laws.proofs.stays_store.Goals as goal

pub returns : goal.returns
returns c = laws.stays_store
