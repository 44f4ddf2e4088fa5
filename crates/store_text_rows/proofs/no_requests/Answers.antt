use Rattle.store_text_rows.proofs.Rows as laws
use Rattle.store_text_rows.proofs.no_requests.Goals as goal

pub returns : goal.returns
returns c = laws.no_requests
