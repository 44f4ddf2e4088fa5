use Rattle.std.proofs.Common.{◌≡◌, map, drop}
use Rattle.schedule_file.specs.Views.{event, schedule}
use Rattle.replay_world.proofs.Running.{Midway}
use Rattle.replay_world.proofs.world.World.run.Given as goal

abbrev pub invariant-loop-happening : goal.invariant-loop-happening
invariant-loop-happening l = record {
  midway : Midway (schedule l.what) l.world (map event (drop l.happening-index l.what.events.items));
  count : l.world.count ≡ l.happening-index;
}
