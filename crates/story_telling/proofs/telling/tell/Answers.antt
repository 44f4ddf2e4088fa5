use Rattle.std.proofs.Common.{◌≡◌, ◌+◌, List, [], ◌∷◌, ◌++◌, map, drop, ap, sym, ◌∙◌, subst, arith}
use Rattle.std.specs.Prelude.{Vec}
use Rattle.std.specs.declared.alloc.Global.{Global}
use Rattle.std.proofs.lemmas.List.{map-append}
use Rattle.replay_defs.specs.Schedules.{ScheduleEvent}
use Rattle.schedule_file.specs.Views.{event, schedule}
use Rattle.trace_defs.specs.Happenings as plain
use Rattle.happenings.specs.declared.reported.Happening.{Happening}
use Rattle.happenings.specs.Reported.{happening, stopped}
use Rattle.replay_world.proofs.Running.{next_event, nothing_left}
use Rattle.story_telling.proofs.Midway.{Midway, one_more, at_end, too_early}
use Rattle.story_telling.proofs.telling.tell.Goals as goal

-- what happens in an event
abbrev in_event : Vec Happening Global → List plain.Happening
in_event reported = map happening reported.items

pub loop-event-preserved : goal.loop-event-preserved
loop-event-preserved c =
    let sch = schedule c.args.schedule.now in
    let events = c.args.schedule.now.events.items in
    let i = c.loop-event.event-index in
    let reported = map in_event c.loop-event.events.items in
    let left : List ScheduleEvent = map event (drop (i + 1) events) in
    let now = subst (Midway sch c.loop-event.world reported)
    (next_event c.deref-event-items.result.now events i c.event-item.result c.deref-event-items.ensures.value
    c.loop-event-test.true c.event-item.is) c.loop-event.invariant.midway in
    let kept : map in_event c.push.new.self.items ≡ reported ++ in_event c.in-Ok.reported ∷ [] =
    ap (map in_event) c.in_ok-push-in-Ok.ensures.items ∙ map-append in_event c.loop-event.events.items (c.in-Ok.reported ∷ []) in
    record {
      midway = subst (λ (t : List (List plain.Happening)). Midway sch c.next.new.world t left) (sym kept)
          (one_more sch c.loop-event.world c.next.new.world reported (in_event c.in-Ok.reported) (event c.event-item.result) left now
          c.in-Ok.ensures.happens (λ v. c.in-Ok.ensures.tells sch.header v));
      count = omega (arith, c.in-Ok.ensures.count, c.loop-event.invariant.count);
    }

pub returns-in-Err : goal.returns-in-Err
returns-in-Err c =
    let sch = schedule c.args.schedule.now in
    let events = c.args.schedule.now.events.items in
    let i = c.loop-event.event-index in
    let reported = map in_event c.loop-event.events.items in
    let now = subst (Midway sch c.loop-event.world reported)
    (next_event c.deref-event-items.result.now events i c.event-item.result c.deref-event-items.ensures.value
    c.loop-event-test.true c.event-item.is) c.loop-event.invariant.midway in
    let ended = too_early sch c.loop-event.world reported (event c.event-item.result) (map event (drop (i + 1) events))
    (stopped c.in_ok-why-in-Err.field-0) now
    (λ v shows is. c.in_ok-why-in-Err.ensures _ (c.in-Err.ensures.stops sch.header v shows is)) in
    record { events = ended.all; stop = ended.ends }

pub returns : goal.returns
returns c =
    let sch = schedule c.args.schedule.now in
    let reported = map in_event c.loop-event.events.items in
    let ended = at_end sch c.loop-event.world reported
    (subst (Midway sch c.loop-event.world reported)
    (nothing_left c.deref-event-items.result.now c.args.schedule.now.events.items c.loop-event.event-index
    c.deref-event-items.ensures.value c.loop-event-test.false) c.loop-event.invariant.midway) in
    record { events = ended.all; stop = ended.ends }
