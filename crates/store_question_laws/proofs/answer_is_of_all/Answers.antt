use Rattle.store_question_laws.proofs.Answers as laws
use Rattle.store_question_laws.proofs.answer_is_of_all.Goals as goal

pub returns : goal.returns
returns c = laws.answer_is_of_all
