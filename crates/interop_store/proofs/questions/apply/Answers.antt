use Rattle.std.proofs.Common.{◌≤◌, ℕ, List, length, ap, ◌∙◌, rules, Vec, Global}
use Rattle.interop_store.specs.Telling.{apply_words, payloads_in}
use Rattle.interop_store.proofs.QuestionLaws.{apply_answers}
use Rattle.interop_store.proofs.questions.apply.Goals as goal

pub returns-clause-answers : goal.returns-clause-answers
returns-clause-answers c =
    let some : 1 ≤ length c.args.words.now = search rules in
    apply_answers c.args.words.now (payloads_in c.in_ok-payloads.payloads.items) c.in_ok-answer_apply.field-0.items some
    c.in_ok-payloads.ensures.read
    (c.in_ok-answer_apply.ensures ∙ ap (λ (ps : List (Vec ℕ Global)). apply_words (payloads_in ps)) c.deref.ensures.value)
