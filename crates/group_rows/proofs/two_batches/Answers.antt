use Rattle.group_rows.proofs.TwoBatches.{two_batches}
use Rattle.group_rows.proofs.two_batches.Goals as goal

pub returns : goal.returns
returns c = two_batches
