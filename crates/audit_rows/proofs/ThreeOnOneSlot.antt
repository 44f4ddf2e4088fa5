-- The row of specs/ThreeOnOneSlot.antt, computed.
use Rattle.std.proofs.Common.{refl}
use Rattle.audit_rows.proofs.Opened.{all_opened}
use Rattle.audit_rows.specs.ThreeOnOneSlot.{sources, ThreeOnOneSlot}

pub three_on_one_slot : ThreeOnOneSlot
unfolding all_opened sources
three_on_one_slot = refl
