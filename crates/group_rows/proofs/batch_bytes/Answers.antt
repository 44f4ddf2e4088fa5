use Rattle.group_rows.proofs.BatchBytes.{batch_bytes}
use Rattle.group_rows.proofs.batch_bytes.Goals as goal

pub returns : goal.returns
returns c = batch_bytes
