use Rattle.node_traces.proofs.Joined.{done_in_a_row}
use Rattle.node_traces.proofs.done_in_a_row.Goals as goal

pub returns : goal.returns
returns c = done_in_a_row
