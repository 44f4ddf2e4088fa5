use Rattle.std.proofs.Common.{◌≡◌, ◌++◌, length}
use Rattle.stmt_codec.specs.Left.{claims_left}
use Rattle.conviction.specs.Own.{all_kept, claims_of_signer}
use Rattle.conviction.proofs.reading.own_claims.Given as goal

abbrev pub invariant-claims : goal.invariant-claims
invariant-claims l = all_kept l.own.items ++ claims_of_signer (claims_left l.left) l.q ≡ claims_of_signer (claims_left l.fn.claims) l.q

abbrev pub decreases-claims : goal.decreases-claims
decreases-claims l = length (claims_left l.left)
