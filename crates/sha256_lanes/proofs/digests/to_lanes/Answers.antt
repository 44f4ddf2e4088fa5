use Rattle.sha2.specs.Sha256.{digest_bytes}
use Rattle.sha256_lanes.proofs.Four.{below_four}
use Rattle.sha256_lanes.proofs.digests.to_lanes.Goals as goal

pub returns : goal.returns
unfolding digest_bytes
returns c = below_four _ c.words-a.ensures c.words-b.ensures c.words-c.ensures c.words-d.ensures
