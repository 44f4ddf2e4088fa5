use Rattle.guard_rows.proofs.Runs.{guard_runs}
use Rattle.guard_rows.proofs.guard_runs.Goals as goal

pub returns : goal.returns
returns c = guard_runs
