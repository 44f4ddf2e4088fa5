use Rattle.std.proofs.Common.{ℕ, sym, List, ◌∷◌, subst, Bor, IfOk}
use Rattle.std.specs.Prelude.{codes}
use Rattle.interop_signatures.specs.Signatures.{Answers}
use Rattle.interop_signatures.proofs.SharedLaws.{six}
use Rattle.interop_signatures.proofs.trees.sign_by_tree.Goals as goal

pub returns-then-words-eq6-clause-answers : goal.returns-then-words-eq6-clause-answers
returns-then-words-eq6-clause-answers c =
    let words = six (λ (w : Bor (List ℕ)). w.now) c.args.words.now _ c.if-words-eq6.true in
    subst (λ (ws : List (List ℕ)). IfOk c.answer_tree.result (λ reported. Answers (codes "lms" ∷ ws) reported.items))
    (sym words) c.answer_tree.ensures.answers

pub returns-then-words-eq6-clause-no_question : goal.returns-then-words-eq6-clause-no_question
returns-then-words-eq6-clause-no_question c = λ e reported a.
    let words = six (λ (w : Bor (List ℕ)). w.now) c.args.words.now _ c.if-words-eq6.true in
    c.answer_tree.ensures.no_question e reported (subst (λ (ws : List (List ℕ)). Answers (codes "lms" ∷ ws) reported) words a)
