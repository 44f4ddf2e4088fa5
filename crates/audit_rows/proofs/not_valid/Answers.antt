use Rattle.audit_rows.proofs.NotValid.{not_valid}
use Rattle.audit_rows.proofs.not_valid.Goals as goal

pub returns : goal.returns
returns c = not_valid
