use Rattle.audit_rows.proofs.BatchKind.{batch_kind}
use Rattle.audit_rows.proofs.batch_kind.Goals as goal

pub returns : goal.returns
returns c = batch_kind
