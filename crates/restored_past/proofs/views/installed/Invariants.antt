use Rattle.std.proofs.Common.{◌≡◌, ◌++◌, map, drop}
use Rattle.group_defs.specs.Process.{Setting}
use Rattle.image_defs.specs.Kept.{AreLeft}
use Rattle.snapshot_rp.specs.Views.{left_view}
use Rattle.restored_past.specs.Installed.{installed_from}
use Rattle.restored_past.proofs.views.installed.Given as goal

abbrev pub invariant-loop-one : goal.invariant-loop-one
invariant-loop-one l =
    (l.views.items ++ installed_from l.view (map left_view (drop l.one-index l.left)) ≡ installed_from l.fn.genesis (map left_view l.left))
    × ((s : Setting) → AreLeft s l.fn.genesis (map left_view l.left) → AreLeft s l.view (map left_view (drop l.one-index l.left)))
