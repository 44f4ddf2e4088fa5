use Rattle.std.proofs.Common.{◌≡◌, ◌<◌, length}
use Rattle.std.specs.List.{AllByRecursion}
use Rattle.slot_quorums.specs.Marks.{restored}
use Rattle.slot_quorums.proofs.quorums.restore.Given as goal

abbrev pub invariant-changed : goal.invariant-changed
invariant-changed l = record {
  same : restored l.changed.items l.cells.entries ≡ restored l.fn.changed.items l.fn.cells.entries;
  old : AllByRecursion (λ x. x.0 < length l.cells.entries) l.changed.items;
}

abbrev pub decreases-changed : goal.decreases-changed
decreases-changed l = goal.left-changed l
