use Rattle.std.proofs.Common.{◌≡◌, List, length}
use Rattle.replay_defs.specs.Schedules.{ScheduleEvent}
use Rattle.replay_defs.specs.Reading.{events_at}
use Rattle.schedule_events.specs.Seen.{roles}
use Rattle.schedule_laws.proofs.Turns.{behind_events, all_from}
use Rattle.schedule_pieces.proofs.ending.last_found.Given as goal

abbrev pub invariant-events : goal.invariant-events
invariant-events l = (before : List ScheduleEvent)
    × (behind_events before (all_from (roles l.of) l.left l.reader.rest.now)
    ≡ events_at (roles l.of) (length l.fn.readable) l.fn.steps l.fn.readable)

abbrev pub decreases-events : goal.decreases-events
decreases-events l = length l.reader.rest.now
