use Rattle.store_laws.proofs.Answers as laws
use Rattle.store_laws.proofs.accepted_is_answer.Goals as goal

pub returns : goal.returns
returns c = laws.accepted_is_answer
