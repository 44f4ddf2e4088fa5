use Rattle.audit_rows.proofs.OtherViews.{other_views}
use Rattle.audit_rows.proofs.other_views.Goals as goal

pub returns : goal.returns
returns c = other_views
