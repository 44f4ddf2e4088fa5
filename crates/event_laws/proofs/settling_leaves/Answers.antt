use Rattle.event_laws.proofs.Settled.{settling_leaves}
use Rattle.event_laws.proofs.settling_leaves.Goals as goal

pub returns : goal.returns
returns c = settling_leaves
