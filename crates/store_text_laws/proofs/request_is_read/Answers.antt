use Rattle.store_text_laws.proofs.Requests as laws
use Rattle.store_text_laws.proofs.request_is_read.Goals as goal

pub returns : goal.returns
returns c = laws.request_is_read
