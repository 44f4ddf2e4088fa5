use Rattle.audit_rows.proofs.RefusedEvent.{refused_event}
use Rattle.audit_rows.proofs.refused_event.Goals as goal

pub returns : goal.returns
returns c = refused_event
