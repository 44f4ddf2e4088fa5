use Rattle.audit_rows.proofs.TooFew.{too_few}
use Rattle.audit_rows.proofs.too_few.Goals as goal

pub returns : goal.returns
returns c = too_few
