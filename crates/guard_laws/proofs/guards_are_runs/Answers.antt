use Rattle.guard_laws.proofs.Running.{guards_are_runs}
use Rattle.guard_laws.proofs.guards_are_runs.Goals as goal

pub returns : goal.returns
returns c = guards_are_runs
