-- The row of specs/SignedLater.antt, computed.
use Rattle.std.proofs.Common.{refl}
use Rattle.audit_rows.proofs.Opened.{all_opened}
use Rattle.audit_rows.specs.SignedLater.{sources, SignedLater}

pub signed_later : SignedLater
unfolding all_opened sources
signed_later = refl
