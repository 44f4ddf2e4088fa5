use Rattle.std.proofs.Common.{ℕ, sym, List, ◌∷◌, subst, Bor, IfOk}
use Rattle.std.specs.Prelude.{codes}
use Rattle.interop_signatures.specs.Signatures.{Answers}
use Rattle.interop_signatures.proofs.SharedLaws.{four}
use Rattle.interop_signatures.proofs.verifying.verify.Goals as goal

pub returns-then-words-eq4-clause-answers : goal.returns-then-words-eq4-clause-answers
returns-then-words-eq4-clause-answers c =
    let words = four (λ (w : Bor (List ℕ)). w.now) c.args.words.now _ c.if-words-eq4.true in
    subst (λ (ws : List (List ℕ)). IfOk c.answer_verify.result (λ reported. Answers (codes "verify" ∷ ws) reported.items))
    (sym words) c.answer_verify.ensures.answers

pub returns-then-words-eq4-clause-no_question : goal.returns-then-words-eq4-clause-no_question
returns-then-words-eq4-clause-no_question c = λ e reported a.
    let words = four (λ (w : Bor (List ℕ)). w.now) c.args.words.now _ c.if-words-eq4.true in
    c.answer_verify.ensures.no_question e reported (subst (λ (ws : List (List ℕ)). Answers (codes "verify" ∷ ws) reported) words a)
