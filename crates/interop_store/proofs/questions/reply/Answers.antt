use Rattle.std.proofs.Common.{ℕ, sym, List, ◌∷◌, subst, Bor, IfOk}
use Rattle.std.specs.Prelude.{codes}
use Rattle.interop_store.specs.Questions.{Answers}
use Rattle.interop_node.proofs.QuestionLaws.{one}
use Rattle.interop_store.proofs.questions.reply.Goals as goal

pub returns-then-words-eq1-clause-answers : goal.returns-then-words-eq1-clause-answers
returns-then-words-eq1-clause-answers c =
    let words = one (λ (w : Bor (List ℕ)). w.now) c.args.words.now _ c.if-words-eq1.true in
    subst (λ (ws : List (List ℕ)). IfOk c.answer_on_reply.result (λ reported. Answers (codes "reply" ∷ ws) reported.items))
    (sym words) c.answer_on_reply.ensures.answers

pub returns-then-words-eq1-clause-no_question : goal.returns-then-words-eq1-clause-no_question
returns-then-words-eq1-clause-no_question c = λ e reported a.
    let words = one (λ (w : Bor (List ℕ)). w.now) c.args.words.now _ c.if-words-eq1.true in
    c.answer_on_reply.ensures.no_question e reported (subst (λ (ws : List (List ℕ)). Answers (codes "reply" ∷ ws) reported) words a)
