use Rattle.std.proofs.Common.{ℕ, ◌/◌, ◌^◌, bit_xor, slice_index, ap, arith}
use Rattle.sha256_lanes.proofs.Below.{lane_below}
use Rattle.sha256_lanes.proofs.Rotations.{rotated_two}
use Rattle.sha256_lanes.proofs.words.small_sigma1.Goals as goal

pub returns : goal.returns
returns c = λ j low.
    let x = slice_index c.args.x j in
    rw (
      c.xor.ensures j low,
      c.rotate_right-2.ensures j low,
      c.xor-two.ensures j low,
      c.rotate_right.ensures j low,
      c.shift_right.ensures j low,
    ) (ap (λ (y : ℕ). bit_xor y (x / 2 ^ 10)) (rotated_two 32 x 17 2 (omega arith) (lane_below c.args.x c.fits-x j low)))
