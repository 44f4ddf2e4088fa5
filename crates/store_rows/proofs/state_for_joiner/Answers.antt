use Rattle.store_rows.proofs.Joined as laws
use Rattle.store_rows.proofs.state_for_joiner.Goals as goal

pub returns : goal.returns
returns c = laws.state_for_joiner
