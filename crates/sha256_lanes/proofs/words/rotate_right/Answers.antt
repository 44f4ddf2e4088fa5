use Rattle.sha256_lanes.proofs.Four.{rotates}
use Rattle.sha256_lanes.proofs.words.rotate_right.Goals as goal

pub returns : goal.returns
returns c = rotates c.args.k c.requires.0 c.requires.1 c.args.x c.fits-x.0
