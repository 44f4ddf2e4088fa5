use Rattle.std.proofs.Common.{◌+◌, ◌∙◌, List, ℕ, String, take, sym, ap, subst}
use Rattle.std.proofs.lemmas.Result.{err_from_is_err_and}
use Rattle.std.specs.declared.alloc.Global.{Global}
use Rattle.interop_runs.specs.Questions.{Each, IsWord}
use Rattle.interop_runs.proofs.Lists.{item_beside, next_read, reported}
use Rattle.interop_runs.proofs.fields.words_in.Goals as goal

pub returns-in_err-word_of-clause-none : goal.returns-in_err-word_of-clause-none
returns-in_err-word_of-clause-none c = λ e words each.
    let p = err_from_is_err_and c.from_residual-in_err-word_of.result c.from_residual-in_err-word_of.ensures.1 in
    let parts = sym c.in_ok-parts.ensures ∙ ap reported (sym c.deref-part-items.ensures.value) in
    let one = item_beside c.deref-part-items.result.now c.loop-part.part-index _ c.loop-part-test.true IsWord words
    (subst (λ (l : List (List ℕ)). Each IsWord l words) parts each) in
    c.in_err-word_of.ensures.none (cc (p.1, p.2, e)) one.0 one.1

pub loop-part-preserved : goal.loop-part-preserved
loop-part-preserved c = subst
    (λ (l : List (String Global)). Each IsWord (reported (take (c.loop-part.part-index + 1) c.deref-part-items.result.now)) l)
    (sym c.in_ok-push.ensures)
    (next_read c.deref-part-items.result.now c.loop-part.part-index _ c.loop-part-test.true IsWord c.loop-part.words.items _
    c.loop-part.invariant c.in_ok-word_of.ensures.read)
