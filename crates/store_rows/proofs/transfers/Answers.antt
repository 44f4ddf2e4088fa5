use Rattle.store_rows.proofs.Transferred as laws
use Rattle.store_rows.proofs.transfers.Goals as goal

pub returns : goal.returns
returns c = laws.transfers
