use Rattle.std.proofs.Common.{◌∷◌, [], ◌++◌, ◌∙◌, replicate, List, ℕ, ap, arith}
use Rattle.placed_batches.proofs.Counted.{begun}
use Rattle.placed_batches.proofs.prefix.PlacedBatches.turn_to.Goals as goal

pub invariant_of-self : goal.invariant_of-self
invariant_of-self c =
    begun c.args.view _ _ _ _ c.members-members.ensures.within.1 c.clear.ensures.items
    (c.in-Ok.ensures.items ∙ ap (λ (rows : List (List ℕ)). rows ++ replicate 16 0 ∷ []) c.clear-2.ensures.items)
    (omega (arith, c.self.invariant.room, c.clear.ensures.capacity))
    (omega (arith, c.self.invariant.rows_room, c.clear-2.ensures.capacity, c.push.ensures.capacity))
