use Rattle.store_text_laws.proofs.Requests as laws
use Rattle.store_text_laws.proofs.answer_is_read.Goals as goal

pub returns : goal.returns
returns c = laws.answer_is_read
