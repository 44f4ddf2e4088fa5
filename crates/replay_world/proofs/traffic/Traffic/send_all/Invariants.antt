use Rattle.std.proofs.Common.{◌≡◌, map, length}
use Rattle.std.specs.Vec.Iter.{into_iter_items}
use Rattle.happenings.specs.Events.{frame_to}
use Rattle.replay_world.specs.Handing.{handed_frames}
use Rattle.replay_world.proofs.Carrying.{SendsOn}
use Rattle.replay_world.proofs.traffic.Traffic.send_all.Given as goal

abbrev pub invariant-sends : goal.invariant-sends
invariant-sends l = record {
  on : SendsOn l.players l.sender (map frame_to l.fn.sends.items) l.initial.self (map frame_to (into_iter_items l.left)) l.self;
  handed : handed_frames l.self.frames.items ≡ handed_frames l.initial.self.frames.items;
}

abbrev pub decreases-sends : goal.decreases-sends
decreases-sends l = length (into_iter_items l.left)
