-- The row of specs/TooFew.antt, computed.
use Rattle.std.proofs.Common.{refl}
use Rattle.audit_rows.proofs.Opened.{all_opened}
use Rattle.audit_rows.specs.TooFew.{sources, TooFew}

pub too_few : TooFew
unfolding all_opened sources
too_few = refl
