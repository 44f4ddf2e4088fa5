use Rattle.lms_chains.proofs.LaneBlock.{last_is}
use Rattle.lms_chains.proofs.lanes.last_word.Goals as goal

pub returns : goal.returns
returns c l low =
    rw (c.add.ensures l low, c.shift_left.ensures l low, c.splat.ensures l low) (last_is _)
