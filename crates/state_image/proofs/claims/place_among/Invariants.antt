use Rattle.std.proofs.Common.{◌≡◌, ◌+◌, drop}
use Rattle.state_image.specs.Pairs.{first_above}
use Rattle.state_image.proofs.claims.place_among.Given as goal

abbrev pub invariant-pairs : goal.invariant-pairs
invariant-pairs l = first_above l.signer l.kept ≡ l.place + first_above l.signer (drop l.place l.kept)
