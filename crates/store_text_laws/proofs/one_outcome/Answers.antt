use Rattle.store_text_laws.proofs.Outcomes as laws
use Rattle.store_text_laws.proofs.one_outcome.Goals as goal

pub returns : goal.returns
returns c = laws.one_outcome
