use Rattle.store_rows.proofs.Asking as laws
use Rattle.store_rows.proofs.ask.Goals as goal

pub returns : goal.returns
returns c = laws.ask
