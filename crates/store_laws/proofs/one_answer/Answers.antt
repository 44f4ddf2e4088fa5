use Rattle.store_laws.proofs.OnePlaceOneAnswer as laws
use Rattle.store_laws.proofs.one_answer.Goals as goal

pub returns : goal.returns
returns c = laws.one_answer
