-- The row of specs/OtherViews.antt, computed.
use Rattle.std.proofs.Common.{refl}
use Rattle.audit_rows.proofs.Opened.{all_opened}
use Rattle.audit_rows.specs.OtherViews.{sources, OtherViews}

pub other_views : OtherViews
unfolding all_opened sources
other_views = refl
