use Rattle.audit_rows.proofs.SpentFalsely.{spent_falsely}
use Rattle.audit_rows.proofs.spent_falsely.Goals as goal

pub returns : goal.returns
returns c = spent_falsely
