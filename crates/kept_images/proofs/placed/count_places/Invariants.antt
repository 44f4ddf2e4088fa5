use Rattle.std.proofs.Common.{◌≡◌, ◌+◌, ◌<◌, map, drop}
use Rattle.std.specs.Prelude.{max, fold}
use Rattle.group_defs.specs.Process.{Delivered, places_in}
use Rattle.snapshot_rp.specs.Views.{delivered}
use Rattle.kept_images.proofs.placed.count_places.Given as goal

abbrev pub invariant-loop-d : goal.invariant-loop-d
invariant-loop-d l = (fold (λ most (d : Delivered). max most (d.place + 1)) l.places (map delivered (drop l.d-index l.delivered))
    ≡ places_in (map delivered l.delivered)) × (l.places < 65537)
