-- The row of specs/TornGate.antt, computed.
use Rattle.std.proofs.Common.{refl}
use Rattle.audit_rows.proofs.Opened.{all_opened}
use Rattle.audit_rows.specs.TornGate.{sources, TornGate}

pub torn_gate : TornGate
unfolding all_opened sources
torn_gate = refl
