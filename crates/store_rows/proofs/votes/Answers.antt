use Rattle.store_rows.proofs.Voted as laws
use Rattle.store_rows.proofs.votes.Goals as goal

pub returns : goal.returns
returns c = laws.votes
