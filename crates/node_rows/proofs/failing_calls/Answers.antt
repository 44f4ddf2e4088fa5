use Rattle.node_rows.proofs.FailingCalls.{failing_calls}
use Rattle.node_rows.proofs.failing_calls.Goals as goal

pub returns : goal.returns
returns c = failing_calls
