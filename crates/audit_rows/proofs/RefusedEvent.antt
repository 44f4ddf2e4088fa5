-- The row of specs/RefusedEvent.antt, computed.
use Rattle.std.proofs.Common.{refl}
use Rattle.audit_rows.proofs.Opened.{all_opened}
use Rattle.audit_rows.specs.RefusedEvent.{sources, RefusedEvent}

pub refused_event : RefusedEvent
unfolding all_opened sources
refused_event = refl
