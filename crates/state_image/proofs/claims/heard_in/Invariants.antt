use Rattle.std.proofs.Common.{◌≡◌, ◌++◌, drop}
use Rattle.std.specs.List.{AllByRecursion}
use Rattle.message_defs.specs.Spelling.{IsClaim}
use Rattle.state_image.proofs.claims.heard_in.Given as goal

abbrev pub invariant-claims : goal.invariant-claims
invariant-claims l =
    AllByRecursion IsClaim (drop l.place l.pool.pool.heard) × (l.kept.items ++ drop l.place l.pool.pool.heard ≡ l.pool.pool.heard)
