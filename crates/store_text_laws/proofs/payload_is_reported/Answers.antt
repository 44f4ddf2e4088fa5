use Rattle.store_text_laws.proofs.Requests as laws
use Rattle.store_text_laws.proofs.payload_is_reported.Goals as goal

pub returns : goal.returns
returns c = laws.payload_is_reported
