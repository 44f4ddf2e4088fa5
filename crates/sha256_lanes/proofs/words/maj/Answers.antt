use Rattle.std.proofs.Common.{slice_index}
use Rattle.sha256_lanes.proofs.Majority.{maj_short}
use Rattle.sha256_lanes.proofs.words.maj.Goals as goal

pub returns : goal.returns
returns c = λ j low.
    rw (c.xor-3.ensures j low, c.and.ensures j low, c.xor-2.ensures j low, c.xor.ensures j low)
    (maj_short (slice_index c.args.x j) (slice_index c.args.y j) (slice_index c.args.z j))
