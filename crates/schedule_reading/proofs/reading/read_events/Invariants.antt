use Rattle.std.proofs.Common.{◌≡◌, map, length}
use Rattle.replay_defs.specs.Schedules.{most_steps}
use Rattle.replay_defs.specs.Reading.{events_at}
use Rattle.schedule_events.specs.Seen.{roles}
use Rattle.schedule_file.specs.Views.{event}
use Rattle.schedule_laws.proofs.Turns.{behind_events, all_from}
use Rattle.schedule_reading.proofs.reading.read_events.Given as goal

abbrev pub invariant-events : goal.invariant-events
invariant-events l = behind_events (map event l.events.items) (all_from (roles l.of) l.left l.reader.rest.now)
    ≡ events_at (roles l.of) (length l.fn.reader.rest.now) most_steps l.fn.reader.rest.now

abbrev pub decreases-events : goal.decreases-events
decreases-events l = length l.reader.rest.now
