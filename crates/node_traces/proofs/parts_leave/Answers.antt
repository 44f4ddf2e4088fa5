use Rattle.node_traces.proofs.Left.{parts_leave}
use Rattle.node_traces.proofs.parts_leave.Goals as goal

pub returns : goal.returns
returns c = parts_leave
