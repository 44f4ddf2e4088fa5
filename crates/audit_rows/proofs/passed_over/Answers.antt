use Rattle.audit_rows.proofs.PassedOver.{passed_over}
use Rattle.audit_rows.proofs.passed_over.Goals as goal

pub returns : goal.returns
returns c = passed_over
