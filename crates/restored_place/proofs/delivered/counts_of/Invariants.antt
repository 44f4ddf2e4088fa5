use Rattle.std.proofs.Common.{◌≡◌, map, take}
use Rattle.group_defs.specs.Process.{delivered_from}
use Rattle.snapshot_rp.specs.Views.{delivered}
use Rattle.restored_place.proofs.delivered.counts_of.Given as goal

abbrev pub invariant-loop-member : goal.invariant-loop-member
invariant-loop-member l = l.counts.items ≡ map (λ m. delivered_from m (map delivered l.delivered)) (take l.member-index l.member-items)
