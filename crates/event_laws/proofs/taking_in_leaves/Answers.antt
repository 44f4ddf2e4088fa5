use Rattle.event_laws.proofs.Taken.{taking_in_leaves}
use Rattle.event_laws.proofs.taking_in_leaves.Goals as goal

pub returns : goal.returns
returns c = taking_in_leaves
