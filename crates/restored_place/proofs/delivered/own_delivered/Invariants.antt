use Rattle.std.proofs.Common.{◌≡◌, map, take}
use Rattle.std.specs.List.{sum_by}
use Rattle.group_defs.specs.Process.{delivered_from}
use Rattle.snapshot_rp.specs.Views.{delivered}
use Rattle.restored_place.proofs.delivered.own_delivered.Given as goal

abbrev pub invariant-loop-delivered : goal.invariant-loop-delivered
invariant-loop-delivered l = l.sum ≡ sum_by (λ ds. delivered_from l.me (map delivered ds.items)) (take l.delivered-index l.lists)
