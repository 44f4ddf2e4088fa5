use Rattle.audit_rows.proofs.NotHosted.{not_hosted}
use Rattle.audit_rows.proofs.not_hosted.Goals as goal

pub returns : goal.returns
returns c = not_hosted
