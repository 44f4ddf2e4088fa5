use Rattle.std.proofs.Common.{◌+◌, ◌≡◌, ◌∙◌, Some, sym, ap, subst, arith, slice_get}
use Rattle.pool_laws.proofs.Places.{slice_get-index}
use Rattle.own_moves.proofs.Counting.{Counting, begins, one-more, stranger, whole}
use Rattle.own_moves.proofs.moves.count_batch.Goals as goal
use Rattle.own_moves.proofs.moves.count_batch.Goals.{in-Some, in_default}

pub messages-init : goal.messages-init
messages-init c = begins c.args.view.now c.messages-message-items.result.now c.args.counts.now c.requires.room

pub overflow_add-counts : goal.overflow_add-counts
overflow_add-counts c = (let le = c.messages.invariant.room c.in-Some.rank in let few = c.messages-message-items.ensures.few in let lt =
    c.messages-test.true in omega (arith, le, few, lt))

pub messages-preserved : goal.messages-preserved
messages-preserved c =
    let at : slice_get c.messages-message-items.result.now c.messages.message-index
    ≡ Some c.message-item.result = slice_get-index c.messages-message-items.result.now c.messages.message-index c.message-item.result
    c.messages-test.true ∙ ap Some (sym c.message-item.is) in
    elim c.match-rank_of.branch [
      | in-Some w ↦ subst (λ cs. Counting c.args.view.now c.messages-message-items.result.now c.args.counts.now cs
          (c.messages.message-index + 1)) (sym w.counts-is)
          (one-more c.args.view.now c.messages-message-items.result.now c.args.counts.now c.messages.counts c.messages.message-index
          w.in-Some.rank c.message-item.result c.members-members.ensures.within.1 c.messages.invariant at (sym w.in-Some.ensures.value))
      | in_default w ↦ subst (λ cs. Counting c.args.view.now c.messages-message-items.result.now c.args.counts.now cs
          (c.messages.message-index + 1)) (sym w.counts-is)
          (stranger c.args.view.now c.messages-message-items.result.now c.args.counts.now c.messages.counts c.messages.message-index
          c.message-item.result c.messages.invariant at (sym c.rank_of.ensures.value ∙ w.in_default.is))
    ]
