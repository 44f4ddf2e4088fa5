-- The row of specs/OthersTorn.antt, computed.
use Rattle.std.proofs.Common.{refl}
use Rattle.audit_rows.proofs.Opened.{all_opened}
use Rattle.audit_rows.specs.OthersTorn.{sources, OthersTorn}

pub others_torn : OthersTorn
unfolding all_opened sources
others_torn = refl
