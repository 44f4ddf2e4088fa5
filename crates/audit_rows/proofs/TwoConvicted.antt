-- The row of specs/TwoConvicted.antt, computed.
use Rattle.std.proofs.Common.{refl}
use Rattle.audit_rows.proofs.Opened.{all_opened}
use Rattle.audit_rows.specs.TwoConvicted.{sources, TwoConvicted}

pub two_convicted : TwoConvicted
unfolding all_opened sources
two_convicted = refl
