use Rattle.std.proofs.Common.{ℕ, sym, List, ◌∷◌, subst, Bor, IfOk}
use Rattle.std.specs.Prelude.{codes}
use Rattle.interop_node.specs.Questions.{Answers}
use Rattle.interop_node.proofs.QuestionLaws.{two}
use Rattle.interop_node.proofs.questions.datagram.Goals as goal

pub returns-then-words-eq2-clause-answers : goal.returns-then-words-eq2-clause-answers
returns-then-words-eq2-clause-answers c =
    let words = two (λ (w : Bor (List ℕ)). w.now) c.args.words.now _ c.if-words-eq2.true in
    subst (λ (ws : List (List ℕ)). IfOk c.answer_on_datagram.result (λ reported. Answers (codes "datagram" ∷ ws) reported.items))
    (sym words) c.answer_on_datagram.ensures.answers

pub returns-then-words-eq2-clause-no_question : goal.returns-then-words-eq2-clause-no_question
returns-then-words-eq2-clause-no_question c = λ e reported a.
    let words = two (λ (w : Bor (List ℕ)). w.now) c.args.words.now _ c.if-words-eq2.true in
    c.answer_on_datagram.ensures.no_question e reported (subst (λ (ws : List (List ℕ)). Answers (codes "datagram" ∷ ws) reported) words a)
