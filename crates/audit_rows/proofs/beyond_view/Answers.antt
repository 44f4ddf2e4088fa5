use Rattle.audit_rows.proofs.BeyondView.{beyond_view}
use Rattle.audit_rows.proofs.beyond_view.Goals as goal

pub returns : goal.returns
returns c = beyond_view
