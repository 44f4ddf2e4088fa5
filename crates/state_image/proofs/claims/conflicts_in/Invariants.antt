use Rattle.std.proofs.Common.{◌≡◌, drop}
use Rattle.image_defs.specs.Images.{by_signer}
use Rattle.state_image.proofs.claims.conflicts_in.Given as goal

abbrev pub invariant-pairs : goal.invariant-pairs
invariant-pairs l = l.kept.items ≡ by_signer (drop l.left l.conflicts.pairs)

abbrev pub decreases-pairs : goal.decreases-pairs
decreases-pairs l = l.left
