use Rattle.group_rows.proofs.LyingBatches.{lying_batches}
use Rattle.group_rows.proofs.lying_batches.Goals as goal

pub returns : goal.returns
returns c = lying_batches
