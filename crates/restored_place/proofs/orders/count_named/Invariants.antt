use Rattle.std.proofs.Common.{◌≡◌, take}
use Rattle.std.specs.Prelude.{min}
use Rattle.std.specs.List.{sum_by}
use Rattle.group_defs.specs.Certified.{named}
use Rattle.restored_place.proofs.orders.count_named.Given as goal

abbrev pub invariant-loop-batch : goal.invariant-loop-batch
invariant-loop-batch l = l.count ≡ min (sum_by (λ b. named l.sender b) (take l.batch-index l.orders)) 65535
