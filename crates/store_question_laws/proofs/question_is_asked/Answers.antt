use Rattle.store_question_laws.proofs.Asked as laws
use Rattle.store_question_laws.proofs.question_is_asked.Goals as goal

pub returns : goal.returns
returns c = laws.question_is_asked
