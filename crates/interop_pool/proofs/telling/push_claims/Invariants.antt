use Rattle.std.proofs.Common.{◌≡◌, ◌++◌, length}
use Rattle.std.specs.List.{flat_map, AllByRecursion}
use Rattle.message_defs.specs.Spelling.{IsClaim}
use Rattle.stmt_codec.specs.Left.{claims_left}
use Rattle.interop_pool.specs.Telling.{claim_words}
use Rattle.interop_pool.proofs.telling.push_claims.Given as goal

abbrev pub invariant-claims : goal.invariant-claims
invariant-claims l = record {
  so_far : l.out.items ++ flat_map (claim_words l.pool.pool) (claims_left l.left)
      ≡ l.fn.out.items ++ flat_map (claim_words l.pool.pool) (claims_left l.fn.claims);
  range : AllByRecursion IsClaim (claims_left l.left);
}

abbrev pub decreases-claims : goal.decreases-claims
decreases-claims l = length (claims_left l.left)
