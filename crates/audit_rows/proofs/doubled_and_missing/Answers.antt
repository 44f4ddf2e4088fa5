use Rattle.audit_rows.proofs.DoubledAndMissing.{doubled_and_missing}
use Rattle.audit_rows.proofs.doubled_and_missing.Goals as goal

pub returns : goal.returns
returns c = doubled_and_missing
