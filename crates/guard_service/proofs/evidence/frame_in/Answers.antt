use Rattle.guard_service.proofs.Seeking.{claims-read, claims-unread}
use Rattle.guard_service.proofs.evidence.frame_in.Goals as goal

pub returns-in-Ok : goal.returns-in-Ok
returns-in-Ok c = λ at. claims-read at c.args.bytes.now c.in-Ok.frame c.in-Ok.ensures.exact

pub returns-in-Err : goal.returns-in-Err
returns-in-Err c = λ at. claims-unread at c.args.bytes.now _ c.in-Err.ensures.exact
