use Rattle.store_laws.proofs.Voting as laws
use Rattle.store_laws.proofs.votes_exactly.Goals as goal

pub returns : goal.returns
returns c = laws.votes_exactly
