use Rattle.node_rows.proofs.TwoProcesses.{two_processes}
use Rattle.node_rows.proofs.two_processes.Goals as goal

pub returns : goal.returns
returns c = two_processes
