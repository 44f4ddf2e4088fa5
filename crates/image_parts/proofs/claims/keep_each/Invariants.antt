use Rattle.std.proofs.Common.{◌≡◌, drop}
use Rattle.image_parts.specs.Walks.{with_pairs}
use Rattle.image_parts.proofs.claims.keep_each.Given as goal

abbrev pub invariant-loop-pair : goal.invariant-loop-pair
invariant-loop-pair l = with_pairs l.conflicts.pairs (drop l.pair-index l.pairs) ≡ with_pairs l.fn.conflicts.pairs l.pairs
