use Rattle.std.proofs.Common.{◌≡◌, map, drop}
use Rattle.kept_images.specs.Tests.{rise_from}
use Rattle.kept_images.proofs.left.rise.Given as goal

abbrev pub invariant-loop-claim : goal.invariant-loop-claim
invariant-loop-claim l = rise_from l.least (map (λ c. c.signer) (drop l.claim-index l.claims)) ≡ rise_from 0 (map (λ c. c.signer) l.claims)
