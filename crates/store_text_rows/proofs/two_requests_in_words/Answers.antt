use Rattle.store_text_rows.proofs.Rows as laws
use Rattle.store_text_rows.proofs.two_requests_in_words.Goals as goal

pub returns : goal.returns
returns c = laws.two_requests_in_words
