use Rattle.std.proofs.Common.{◌≡◌, ◌∙◌, ◌+◌, ◌<◌, Some, length, sym, ap, subst, arith, slice_get}
use Rattle.rule_laws.proofs.Below.{slice_get-index}
use Rattle.placed_batches.proofs.Counted.{SoFar, skipped, count-one}
use Rattle.placed_batches.proofs.counting.count_batch.Goals as goal
use Rattle.placed_batches.proofs.counting.count_batch.Goals.{in-Some, in_default}

pub messages-preserved : goal.messages-preserved
messages-preserved c =
    let at : slice_get c.messages-message-items.result.now c.messages.message-index
    ≡ Some c.message-item.result = slice_get-index c.messages-message-items.result.now c.messages.message-index c.message-item.result
    c.messages-test.true ∙ ap Some (sym c.message-item.is) in
    elim c.match-rank_of.branch [
      | in-Some w ↦
          let lt : w.in-Some.rank < length c.messages.row = omega
          (arith, w.in-Some.ensures.below, c.messages.invariant.wide, c.members-members.ensures.within.1.few) in
          subst (λ row. SoFar c.args.view.now c.messages-message-items.result.now c.args.row.now row (c.messages.message-index + 1))
          (sym w.row-is)
          (count-one c.args.view.now c.members-members.ensures.within.1 c.messages-message-items.result.now c.args.row.now c.messages.row
          c.messages.message-index c.message-item.result c.messages.invariant at w.in-Some.rank (sym w.in-Some.ensures.value) lt)
      | in_default w ↦
          subst (λ row. SoFar c.args.view.now c.messages-message-items.result.now c.args.row.now row (c.messages.message-index + 1))
          (sym w.row-is)
          (skipped c.args.view.now c.members-members.ensures.within.1 c.messages-message-items.result.now c.args.row.now c.messages.row
          c.messages.message-index c.message-item.result c.messages.invariant at (sym c.rank_of.ensures.value ∙ w.in_default.is))
    ]
