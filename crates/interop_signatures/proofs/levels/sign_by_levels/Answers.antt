use Rattle.std.proofs.Common.{ℕ, sym, List, ◌∷◌, subst, Bor, IfOk}
use Rattle.std.specs.Prelude.{codes}
use Rattle.interop_signatures.specs.Signatures.{Answers}
use Rattle.interop_signatures.proofs.SharedLaws.{seven}
use Rattle.interop_signatures.proofs.levels.sign_by_levels.Goals as goal

pub returns-then-words-eq7-clause-answers : goal.returns-then-words-eq7-clause-answers
returns-then-words-eq7-clause-answers c =
    let words = seven (λ (w : Bor (List ℕ)). w.now) c.args.words.now _ c.if-words-eq7.true in
    subst (λ (ws : List (List ℕ)). IfOk c.answer_levels.result (λ reported. Answers (codes "hss" ∷ ws) reported.items))
    (sym words) c.answer_levels.ensures.answers

pub returns-then-words-eq7-clause-no_question : goal.returns-then-words-eq7-clause-no_question
returns-then-words-eq7-clause-no_question c = λ e reported a.
    let words = seven (λ (w : Bor (List ℕ)). w.now) c.args.words.now _ c.if-words-eq7.true in
    c.answer_levels.ensures.no_question e reported (subst (λ (ws : List (List ℕ)). Answers (codes "hss" ∷ ws) reported) words a)
