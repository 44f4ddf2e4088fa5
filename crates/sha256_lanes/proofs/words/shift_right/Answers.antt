use Rattle.sha256_lanes.proofs.Four.{shifted}
use Rattle.sha256_lanes.proofs.words.shift_right.Goals as goal

pub returns : goal.returns
returns c = shifted c.args.k c.args.x c.fits-x.0
