use Rattle.sha256_lanes.proofs.Four.{shifted_left}
use Rattle.sha256_lanes.proofs.words.shift_left.Goals as goal

pub returns : goal.returns
returns c = shifted_left c.args.k c.requires c.args.x c.fits-x.0
