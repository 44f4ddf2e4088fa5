use Rattle.std.proofs.Common.{◌≡◌, map, drop}
use Rattle.snapshot_rp.specs.Views.{left_view}
use Rattle.claim_pool.specs.Settings.{as_setting}
use Rattle.kept_images.specs.Tests.{leaves}
use Rattle.kept_images.proofs.left.leave.Given as goal

abbrev pub invariant-loop-one : goal.invariant-loop-one
invariant-loop-one g l = leaves (as_setting (g.V.Scheme.valid l.scheme) l.group l.roster) l.view (map left_view (drop l.one-index l.left))
    ≡ leaves (as_setting (g.V.Scheme.valid l.scheme) l.group l.roster) l.fn.genesis (map left_view l.left)
