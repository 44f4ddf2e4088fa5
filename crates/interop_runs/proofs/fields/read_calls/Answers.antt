use Rattle.std.proofs.Common.{◌+◌, ◌∙◌, List, ℕ, take, sym, ap, subst}
use Rattle.std.proofs.lemmas.Result.{err_from_is_err_and}
use Rattle.interop_runs.specs.declared.calls.Nth.{Nth as Call}
use Rattle.interop_runs.specs.Questions.{Each, IsCall}
use Rattle.interop_runs.proofs.Lists.{item_beside, list_once, next_read, reported}
use Rattle.interop_runs.proofs.fields.read_calls.Goals as goal

pub returns-in_err-read_call-clause-none : goal.returns-in_err-read_call-clause-none
returns-in_err-read_call-clause-none c = λ e calls listed.
    let p = err_from_is_err_and c.from_residual-in_err-read_call.result c.from_residual-in_err-read_call.ensures.1 in
    let items = list_once _ _ _ listed.list c.in_ok-items.ensures ∙ ap reported (sym c.deref-item-items.ensures.value) in
    let each = subst (λ (l : List (List ℕ)). Each IsCall l calls) items listed.each in
    let one = item_beside c.deref-item-items.result.now c.loop-item.item-index _ c.loop-item-test.true IsCall calls each in
    c.in_err-read_call.ensures.none (cc (p.1, p.2, e)) one.0 one.1

pub loop-item-preserved : goal.loop-item-preserved
loop-item-preserved c = subst
    (λ (l : List Call). Each IsCall (reported (take (c.loop-item.item-index + 1) c.deref-item-items.result.now)) l) (sym c.in_ok-push.ensures)
    (next_read c.deref-item-items.result.now c.loop-item.item-index _ c.loop-item-test.true IsCall c.loop-item.calls.items _
    c.loop-item.invariant c.in_ok-read_call.ensures.read)
