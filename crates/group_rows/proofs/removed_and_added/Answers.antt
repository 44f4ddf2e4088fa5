use Rattle.group_rows.proofs.RemovedAndAdded.{removed_and_added}
use Rattle.group_rows.proofs.removed_and_added.Goals as goal

pub returns : goal.returns
returns c = removed_and_added
