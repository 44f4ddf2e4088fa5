use Rattle.std.proofs.Common.{◌≡◌, ◌-◌, take}
use Rattle.std.specs.Prelude.{◌==◌, count_by}
use Rattle.std.specs.List.{sum_by}
use Rattle.kept_images.proofs.accepted.left_of.Given as goal

abbrev pub invariant-loop-delivered : goal.invariant-loop-delivered
invariant-loop-delivered l =
    l.left ≡ l.count - sum_by (λ ds. count_by (λ d. d.sender == l.me) ds.items) (take l.delivered-index l.lists)
