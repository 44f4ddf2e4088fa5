use Rattle.std.proofs.Common.{◌≡◌}
use Rattle.rp_base.specs.Pids.{mask_of}
use Rattle.replay_world.specs.Worlds.{count_of}
use Rattle.replay_world.proofs.Draining.{DrainsOn, ReportedSoFar}
use Rattle.replay_world.proofs.world.World.drain.Given as goal

abbrev pub invariant-deliveries : goal.invariant-deliveries
invariant-deliveries l = record {
  drains : DrainsOn (mask_of l.to) l.count l.initial.self l.left l.self;
  reported : ReportedSoFar (mask_of l.to) l.count l.initial.self l.initial.reported l.left l.self l.reported;
  count : count_of l.self ≡ count_of l.initial.self;
}

abbrev pub decreases-deliveries : goal.decreases-deliveries
decreases-deliveries l = l.left
