-- The row of specs/TooManyCorrupt.antt, computed.
use Rattle.std.proofs.Common.{refl}
use Rattle.audit_rows.proofs.Opened.{all_opened}
use Rattle.audit_rows.specs.TooManyCorrupt.{sources, TooManyCorrupt}

pub too_many_corrupt : TooManyCorrupt
unfolding all_opened sources
too_many_corrupt = refl
