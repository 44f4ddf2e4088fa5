use Rattle.std.proofs.Common.{◌≡◌, ◌++◌, drop, map}
use Rattle.image_defs.specs.Images.{left_by}
use Rattle.snapshot_rp.specs.Views.{left_view}
use Rattle.state_image.specs.Commits.{claims_as}
use Rattle.state_image.proofs.left.left_views.Given as goal

abbrev pub invariant-views : goal.invariant-views
invariant-views l =
    map left_view l.left.items ++ map (λ cs. left_by (claims_as cs)) (drop l.view l.archive.commits)
    ≡ map (λ cs. left_by (claims_as cs)) l.archive.commits
