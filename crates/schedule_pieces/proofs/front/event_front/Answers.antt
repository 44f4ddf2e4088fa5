use Rattle.std.proofs.Common.{arith}
use Rattle.schedule_events.specs.Seen.{roles}
use Rattle.schedule_pieces.proofs.Giving.{no_event}
use Rattle.schedule_pieces.proofs.front.event_front.Goals as goal

pub returns-in-None : goal.returns-in-None
returns-in-None c =
    let read = rw c.in-Err-Found.field-0-is at c.in-Err-Found.ensures.err in
    no_event (roles c.args.of.now) c.args.steps c.args.taken c.args.waiting.now c.within_limit-readable.result.now c.in-Err-Found.found
    (λ i. omega (arith, c.type_inv.waiting i)) c.within_limit-readable.ensures read c.in-None.ensures.0 c.in-None.ensures.1
