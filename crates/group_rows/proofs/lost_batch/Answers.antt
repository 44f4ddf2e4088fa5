use Rattle.group_rows.proofs.LostBatch.{lost_batch}
use Rattle.group_rows.proofs.lost_batch.Goals as goal

pub returns : goal.returns
returns c = lost_batch
