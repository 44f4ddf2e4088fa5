use Rattle.std.proofs.Common.{slice_index, arith}
use Rattle.sha256_lanes.proofs.Below.{lane_below}
use Rattle.sha256_lanes.proofs.Rotations.{rotated_three}
use Rattle.sha256_lanes.proofs.words.big_sigma0.Goals as goal

pub returns : goal.returns
returns c = λ j low.
    rw (
      c.rotate_right-3.ensures j low,
      c.xor-three.ensures j low,
      c.rotate_right-2.ensures j low,
      c.xor-two.ensures j low,
      c.rotate_right.ensures j low,
    ) (rotated_three 32 (slice_index c.args.x j) 2 11 9 (omega arith) (lane_below c.args.x c.fits-x j low))
