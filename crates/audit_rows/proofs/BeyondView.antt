-- The row of specs/BeyondView.antt, computed.
use Rattle.std.proofs.Common.{refl}
use Rattle.audit_rows.proofs.Opened.{all_opened}
use Rattle.audit_rows.specs.BeyondView.{sources, BeyondView}

pub beyond_view : BeyondView
unfolding all_opened sources
beyond_view = refl
