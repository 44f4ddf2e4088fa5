use Rattle.audit_rows.proofs.OthersTorn.{others_torn}
use Rattle.audit_rows.proofs.others_torn.Goals as goal

pub returns : goal.returns
returns c = others_torn
