use Rattle.std.proofs.Common.{arith, Fits, w32}
use Rattle.std.proofs.lemmas.Simd.{Each1-get_or}
use Rattle.lms_chains.proofs.LaneBlock.{joined_is}
use Rattle.lms_chains.proofs.lanes.joined.Goals as goal

pub returns : goal.returns
returns c l low =
    let long = c.fits-next.0 in
    let fits = Each1-get_or (Fits w32) c.args.next l 0 (omega arith) c.fits-next.1 in
    rw (c.add.ensures l low, c.shift_left.ensures l low, c.shift_right.ensures l low) (joined_is _ _ fits.fits)
