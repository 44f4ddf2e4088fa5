use Rattle.std.proofs.Common.{arith, map}
use Rattle.std.proofs.lemmas.List.{map_push}
use Rattle.std.proofs.lemmas.Result.{err_from_is_err_and}
use Rattle.schedule_events.specs.Seen.{roles}
use Rattle.schedule_file.specs.Views.{event}
use Rattle.schedule_laws.proofs.Behind.{event_shrinks}
use Rattle.schedule_reading.proofs.EventLoop.{begins, goes_on, fails, is_done}
use Rattle.schedule_reading.proofs.reading.read_events.Goals as goal

pub events-init : goal.events-init
events-init c = rw c.new-events.ensures.items (begins (roles c.args.of.now) c.args.reader.now.rest.now)

pub returns-in_err-event : goal.returns-in_err-event
returns-in_err-event c =
    let p = err_from_is_err_and c.from_residual.result c.from_residual.ensures.1 in
    rw (p.1, p.2) (fails (roles c.args.of.now) c.events.left c.events.reader.rest.now c.in_err-event.field-0.0
    (map event c.events.events.items) _ (omega arith) c.in_err-event.ensures c.events.invariant)

pub events-preserved : goal.events-preserved
events-preserved c =
    rw (
      c.in_ok-push.ensures.items,
      map_push event c.events.events.items c.in_ok-event.event,
      c.saturating_sub-left.ensures,
      c.steps.ensures,
    )
    (goes_on (roles c.args.of.now) c.events.left c.events.reader.rest.now (event c.in_ok-event.event) _
    (map event c.events.events.items) _ c.in_ok-event.ensures c.events.invariant)

pub events-smaller : goal.events-smaller
events-smaller c = event_shrinks (roles c.args.of.now) c.events.left c.events.reader.rest.now _ c.in_ok-event.ensures

pub returns : goal.returns
returns c = is_done (roles c.args.of.now) c.events.left c.events.reader.rest.now (map event c.events.events.items) _
    (omega arith) c.events.invariant
