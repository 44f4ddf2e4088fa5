-- The row of specs/ForgedOwn.antt, computed.
use Rattle.std.proofs.Common.{refl}
use Rattle.audit_rows.proofs.Opened.{all_opened}
use Rattle.audit_rows.specs.ForgedOwn.{sources, ForgedOwn}

pub forged_own : ForgedOwn
unfolding all_opened sources
forged_own = refl
