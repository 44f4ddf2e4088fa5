use Rattle.store_text_rows.proofs.Rows as laws
use Rattle.store_text_rows.proofs.each_answer.Goals as goal

pub returns : goal.returns
returns c = laws.each_answer
