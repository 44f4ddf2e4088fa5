use Rattle.audit_rows.proofs.TooManyCorrupt.{too_many_corrupt}
use Rattle.audit_rows.proofs.too_many_corrupt.Goals as goal

pub returns : goal.returns
returns c = too_many_corrupt
