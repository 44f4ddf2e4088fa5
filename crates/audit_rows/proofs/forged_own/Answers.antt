use Rattle.audit_rows.proofs.ForgedOwn.{forged_own}
use Rattle.audit_rows.proofs.forged_own.Goals as goal

pub returns : goal.returns
returns c = forged_own
