use Rattle.audit_rows.proofs.LiarListed.{liar_listed}
use Rattle.audit_rows.proofs.liar_listed.Goals as goal

pub returns : goal.returns
returns c = liar_listed
