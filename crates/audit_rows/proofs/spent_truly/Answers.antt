use Rattle.audit_rows.proofs.SpentTruly.{spent_truly}
use Rattle.audit_rows.proofs.spent_truly.Goals as goal

pub returns : goal.returns
returns c = spent_truly
