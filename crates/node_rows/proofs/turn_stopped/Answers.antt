use Rattle.node_rows.proofs.TurnStopped.{turn_stopped}
use Rattle.node_rows.proofs.turn_stopped.Goals as goal

pub returns : goal.returns
returns c = turn_stopped
