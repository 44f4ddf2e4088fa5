use Rattle.placed_batches.proofs.Counted.{first-rows}
use Rattle.placed_batches.proofs.prefix.PlacedBatches.truncate.Goals as goal

pub invariant_of-self : goal.invariant_of-self
invariant_of-self c =
    rw (c.truncate.ensures.items, c.truncate-2.ensures.items, c.truncate.ensures.capacity, c.truncate-2.ensures.capacity)
    (first-rows c.self.inside.view c.self.inside.batches.items c.self.inside.names.items _ _ c.args.count c.self.invariant)
