use Rattle.std.proofs.Common.{◌∷◌, [], ◌++◌, ◌∙◌, replicate, List, ℕ, ap, arith}
use Rattle.placed_batches.proofs.Counted.{begun}
use Rattle.placed_batches.proofs.prefix.PlacedBatches.new.Goals as goal

pub invariant_of-result : goal.invariant_of-result
invariant_of-result c =
    begun c.args.view _ _ _ _ c.members-members.ensures.within.1 c.in_ok-batches.ensures.items
    (c.in_ok-push.ensures.items ∙ ap (λ (rows : List (List ℕ)). rows ++ replicate 16 0 ∷ []) c.in_ok-names.ensures.items)
    (omega (arith, c.in_ok-batches.ensures.exact)) (omega (arith, c.in_ok-names.ensures.exact, c.push.ensures.capacity))
