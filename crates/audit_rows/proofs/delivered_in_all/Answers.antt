use Rattle.audit_rows.proofs.DeliveredInAll.{delivered_in_all}
use Rattle.audit_rows.proofs.delivered_in_all.Goals as goal

pub returns : goal.returns
returns c = delivered_in_all
