use Rattle.std.proofs.Common.{◌≡◌, ◌-◌, length}
use Rattle.pool_values.specs.Places.{ArePlaced}
use Rattle.pool_values.proofs.places.follow.Given as goal

abbrev pub invariant-places : goal.invariant-places
invariant-places l = record {
  view : l.prefix.view ≡ l.quorums.pool.view;
  placed : ArePlaced l.quorums.pool l.prefix.batches;
}

abbrev pub decreases-places : goal.decreases-places
decreases-places l = 1024 - length l.prefix.batches
