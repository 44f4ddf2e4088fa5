use Rattle.std.proofs.Common.{arith}
use Rattle.snapshot_rp.specs.Views.{delivered}
use Rattle.restored_place.proofs.Counted.{sum-few}
use Rattle.restored_place.proofs.delivered.own_delivered.Goals as goal

pub overflow_add-sum : goal.overflow_add-sum
overflow_add-sum c =
    let all = sum-few delivered (λ ds. ds.items) c.args.me c.args.lists.now c.loop-delivered.delivered-index c.requires.views c.requires.few in
    let sum = c.loop-delivered.invariant in
    let from = c.from-sum.ensures in
    let one = c.count_from.ensures.few in
    omega (arith, all, sum, from, one)
