-- The row of specs/OpenGate.antt, computed.
use Rattle.std.proofs.Common.{refl}
use Rattle.audit_rows.proofs.Opened.{all_opened}
use Rattle.audit_rows.specs.OpenGate.{sources, OpenGate}

pub open_gate : OpenGate
unfolding all_opened sources
open_gate = refl
