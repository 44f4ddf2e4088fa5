use Rattle.std.proofs.Common.{arith, Fits, w32}
use Rattle.std.proofs.lemmas.Simd.{Each1-get_or}
use Rattle.lms_chains.proofs.LaneBlock.{first_is}
use Rattle.lms_chains.proofs.lanes.first_word.Goals as goal

pub returns : goal.returns
returns c l low small =
    let long = c.fits-value.0 in
    let fits = Each1-get_or (Fits w32) c.args.value l 0 (omega arith) c.fits-value.1 in
    rw (c.add-2.ensures l low, c.add.ensures l low, c.shift_left.ensures l low, c.splat.ensures l low, c.shift_right.ensures l low)
    (first_is _ c.args.j _ small c.requires.step fits.fits)
