use Rattle.std.proofs.Common.{◌≡◌, ◌-◌, map}
use Rattle.snapshot_rp.specs.Views.{delivered}
use Rattle.heard_images.specs.Walks.{after_places}
use Rattle.heard_images.proofs.placed.after_places.Given as goal

abbrev pub invariant-places : goal.invariant-places
invariant-places l =
    after_places l.pool.pool (l.places - l.place) l.place (map delivered l.left)
    ≡ after_places l.pool.pool l.places 0 (map delivered l.delivered)
