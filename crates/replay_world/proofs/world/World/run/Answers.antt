use Rattle.std.proofs.Common.{map, arith, drop, sym, subst, ◌+◌}
use Rattle.std.proofs.lemmas.Result.{err_from_is_err_and}
use Rattle.schedule_file.specs.Views.{event, schedule}
use Rattle.replay_world.specs.Worlds.{IsEarlyEnd}
use Rattle.replay_world.specs.declared.fault.WorldFault.{WorldFault}
use Rattle.replay_world.proofs.Running.{Midway, begun, one_more, too_early, at_end, next_event, nothing_left}
use Rattle.replay_world.proofs.world.World.run.Goals as goal

pub loop-happening-init : goal.loop-happening-init
loop-happening-init c = record {
  midway = begun (schedule c.args.what.now) c.in_ok-world.world c.in_ok-world.ensures.shows c.requires.events;
  count = c.in_ok-world.ensures.count;
}

pub loop-happening-preserved : goal.loop-happening-preserved
loop-happening-preserved c =
    let events = c.args.what.now.events.items in
    let i = c.loop-happening.happening-index in
    let now = subst (Midway (schedule c.args.what.now) c.loop-happening.world)
    (next_event c.deref-happening-items.result.now events i c.happening-item.result c.deref-happening-items.ensures.value
    c.loop-happening-test.true c.happening-item.is) c.loop-happening.invariant.midway in
    record {
      midway = one_more (schedule c.args.what.now) c.loop-happening.world c.event.new.self (event c.happening-item.result)
          (map event (drop (i + 1) events)) now c.in_ok-event.ensures.happens;
      count = omega (arith, c.in_ok-event.ensures.count, c.loop-happening.invariant.count);
    }

pub returns-in_err-event-clause-stops : goal.returns-in_err-event-clause-stops
returns-in_err-event-clause-stops c =
    let p = err_from_is_err_and c.from_residual-in_err-event.result c.from_residual-in_err-event.ensures.1 in
    let fault = c.in_err-event.field-0.0 in
    let events = c.args.what.now.events.items in
    let i = c.loop-happening.happening-index in
    let now = subst (Midway (schedule c.args.what.now) c.loop-happening.world)
    (next_event c.deref-happening-items.result.now events i c.happening-item.result c.deref-happening-items.ensures.value
    c.loop-happening-test.true c.happening-item.is) c.loop-happening.invariant.midway in
    let early : IsEarlyEnd (schedule c.args.what.now) fault =
    too_early (schedule c.args.what.now) c.loop-happening.world (event c.happening-item.result)
    (map event (drop (i + 1) events)) fault now c.in_err-event.ensures.stops in
    rw p.1 (subst (λ (f : WorldFault). IsEarlyEnd (schedule c.args.what.now) f) (sym p.2) early)

pub returns-clause-shows : goal.returns-clause-shows
returns-clause-shows c =
    at_end (schedule c.args.what.now) c.loop-happening.world
    (subst (Midway (schedule c.args.what.now) c.loop-happening.world)
    (nothing_left c.deref-happening-items.result.now c.args.what.now.events.items c.loop-happening.happening-index
    c.deref-happening-items.ensures.value c.loop-happening-test.false) c.loop-happening.invariant.midway)
