use Rattle.std.proofs.Common.{◌≡◌, ◌++◌, map, take}
use Rattle.std.specs.List.{flat_map}
use Rattle.replay_defs.specs.Schedules.{event_bytes}
use Rattle.schedule_file.specs.Views.{event}
use Rattle.schedule_file.proofs.writing.push_events.Given as goal

abbrev pub invariant-loop-event : goal.invariant-loop-event
invariant-loop-event l = l.out.items ≡ l.initial.out.items ++ flat_map event_bytes (map event (take l.event-index l.events))
