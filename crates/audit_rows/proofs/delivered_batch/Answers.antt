use Rattle.audit_rows.proofs.DeliveredBatch.{delivered_batch}
use Rattle.audit_rows.proofs.delivered_batch.Goals as goal

pub returns : goal.returns
returns c = delivered_batch
