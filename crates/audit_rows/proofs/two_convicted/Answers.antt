use Rattle.audit_rows.proofs.TwoConvicted.{two_convicted}
use Rattle.audit_rows.proofs.two_convicted.Goals as goal

pub returns : goal.returns
returns c = two_convicted
