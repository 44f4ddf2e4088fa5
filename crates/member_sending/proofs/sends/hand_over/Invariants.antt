use Rattle.std.proofs.Common.{◌≡◌, ◌++◌, [], map, length}
use Rattle.member_taking.specs.States.{frame_to}
use Rattle.member_sending.specs.Sends.{each_to}
use Rattle.member_sending.proofs.sends.hand_over.Given as goal

abbrev pub invariant-frames : goal.invariant-frames
invariant-frames l = record {
  handed : map frame_to l.sends.items ++ each_to l.to l.frames.frames ≡ map frame_to l.fn.sends.items ++ each_to l.to l.fn.frames.frames;
  claims : l.frames.claims ≡ [];
  none : l.fn.frames.frames ≡ [] → l.frames.frames ≡ [];
}

abbrev pub decreases-frames : goal.decreases-frames
decreases-frames l = length l.frames.frames
