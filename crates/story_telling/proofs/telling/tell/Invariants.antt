use Rattle.std.proofs.Common.{◌≡◌, map, drop}
use Rattle.schedule_file.specs.Views.{event, schedule}
use Rattle.happenings.specs.Reported.{happening}
use Rattle.replay_world.specs.Worlds.{count_of}
use Rattle.story_telling.proofs.Midway.{Midway}
use Rattle.story_telling.proofs.telling.tell.Given as goal

abbrev pub invariant-loop-event : goal.invariant-loop-event
invariant-loop-event l = record {
  midway : Midway (schedule l.schedule) l.world (map (λ reported. map happening reported.items) l.events.items)
      (map event (drop l.event-index l.schedule.events.items));
  count : count_of l.world ≡ l.event-index;
}
