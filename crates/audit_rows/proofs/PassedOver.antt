-- The row of specs/PassedOver.antt, computed.
use Rattle.std.proofs.Common.{refl}
use Rattle.audit_rows.proofs.Opened.{all_opened}
use Rattle.audit_rows.specs.PassedOver.{sources, PassedOver}

pub passed_over : PassedOver
unfolding all_opened sources
passed_over = refl
