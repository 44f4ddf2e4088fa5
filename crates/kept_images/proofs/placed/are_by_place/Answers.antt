use Rattle.std.proofs.Common.{map}
use Rattle.snapshot_rp.specs.Views.{delivered}
use Rattle.kept_images.specs.Tests.{is_placed}
use Rattle.kept_images.proofs.Entries.{placed-so, so-placed}
use Rattle.kept_images.proofs.Facts.{places-all}
use Rattle.kept_images.proofs.Tested.{each-tested}
use Rattle.kept_images.proofs.placed.are_by_place.Goals as goal

pub returns : goal.returns
returns c = places-all (map (λ ds. map delivered ds.items) c.args.lists.now)
    (each-tested (λ ds. map delivered ds.items) is_placed _ c.args.lists.now c.each_is_placed.result placed-so so-placed c.each_is_placed.ensures)
