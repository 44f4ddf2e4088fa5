use Rattle.store_text_laws.proofs.Words as laws
use Rattle.store_text_laws.proofs.words_are_request.Goals as goal

pub returns : goal.returns
returns c = laws.words_are_request
