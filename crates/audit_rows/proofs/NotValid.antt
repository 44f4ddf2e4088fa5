-- The row of specs/NotValid.antt, computed.
use Rattle.std.proofs.Common.{refl}
use Rattle.audit_rows.proofs.Opened.{all_opened}
use Rattle.audit_rows.specs.NotValid.{sources, NotValid}

pub not_valid : NotValid
unfolding all_opened sources
not_valid = refl
