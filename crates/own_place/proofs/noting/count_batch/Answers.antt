use Rattle.std.proofs.Common.{◌≡◌, ◌∙◌, ◌≤◌, ◌+◌, Some, sym, ap, subst, arith, slice_get}
use Rattle.std.specs.List.{AllByRecursion}
use Rattle.message_defs.specs.Statements.{Batch}
use Rattle.message_defs.specs.Spelling.{IsMessage}
use Rattle.pool_laws.proofs.Places.{slice_get-index}
use Rattle.own_place.proofs.Batches.{SoFar, small-number, one-more, no-stranger}
use Rattle.own_place.proofs.noting.count_batch.Goals as goal
use Rattle.own_place.proofs.noting.count_batch.Goals.{in-Some, in_default}

pub overflow_add-counts : goal.overflow_add-counts
overflow_add-counts c =
    let at : slice_get c.messages-message-items.result.now c.messages.message-index
    ≡ Some c.message-item.result = slice_get-index c.messages-message-items.result.now c.messages.message-index c.message-item.result
    c.messages-test.true ∙ ap Some (sym c.message-item.is) in
    let le : c.message-item.result.1
    ≤ 1023 = small-number c.messages-message-items.result.now c.messages.message-index c.message-item.result
    (subst (λ (b : Batch). AllByRecursion IsMessage b) (sym c.messages-message-items.ensures.list) c.requires.numbers) at in
    omega (arith, le)

pub messages-preserved : goal.messages-preserved
messages-preserved c =
    let at : slice_get c.messages-message-items.result.now c.messages.message-index
    ≡ Some c.message-item.result = slice_get-index c.messages-message-items.result.now c.messages.message-index c.message-item.result
    c.messages-test.true ∙ ap Some (sym c.message-item.is) in
    elim c.match-rank_of.branch [
      | in-Some w ↦ subst (λ cs. SoFar c.args.view.now c.messages-message-items.result.now c.args.counts.now cs
          (c.messages.message-index + 1)) (sym w.counts-is)
          (one-more c.args.view.now c.members-members.ensures.within.1 c.messages-message-items.result.now c.args.counts.now
          c.messages.counts c.messages.message-index w.in-Some.rank c.message-item.result c.messages.invariant at
          (sym w.in-Some.ensures.value))
      | in_default w ↦ subst (λ cs. SoFar c.args.view.now c.messages-message-items.result.now c.args.counts.now cs
          (c.messages.message-index + 1)) (sym w.counts-is)
          (no-stranger c.args.view.now c.members-members.ensures.within.1 c.messages-message-items.result.now c.args.counts.now
          c.messages.counts c.messages.message-index c.message-item.result at (sym c.rank_of.ensures.value ∙ w.in_default.is))
    ]
