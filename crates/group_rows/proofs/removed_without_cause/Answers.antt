use Rattle.group_rows.proofs.RemovedWithoutCause.{removed_without_cause}
use Rattle.group_rows.proofs.removed_without_cause.Goals as goal

pub returns : goal.returns
returns c = removed_without_cause
