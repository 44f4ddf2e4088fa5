use Rattle.store_rows.proofs.Placed as laws
use Rattle.store_rows.proofs.places.Goals as goal

pub returns : goal.returns
returns c = laws.places
