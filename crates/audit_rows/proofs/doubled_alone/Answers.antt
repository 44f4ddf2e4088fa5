use Rattle.audit_rows.proofs.DoubledAlone.{doubled_alone}
use Rattle.audit_rows.proofs.doubled_alone.Goals as goal

pub returns : goal.returns
returns c = doubled_alone
