-- The row of specs/DoubledAlone.antt, computed.
use Rattle.std.proofs.Common.{refl}
use Rattle.audit_rows.proofs.Opened.{all_opened}
use Rattle.audit_rows.specs.DoubledAlone.{sources, DoubledAlone}

pub doubled_alone : DoubledAlone
unfolding all_opened sources
doubled_alone = refl
