use Rattle.audit_rows.proofs.SignedLater.{signed_later}
use Rattle.audit_rows.proofs.signed_later.Goals as goal

pub returns : goal.returns
returns c = signed_later
