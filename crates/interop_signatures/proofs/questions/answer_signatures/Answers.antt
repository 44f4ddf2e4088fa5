use Rattle.std.proofs.Common.{ℕ, List, sym, subst, IfOk}
use Rattle.interop_signatures.specs.Signatures.{Answers}
use Rattle.interop_signatures.proofs.SharedLaws.{begun}
use Rattle.interop_signatures.proofs.questions.answer_signatures.Goals as goal

pub returns-then-eq-clause-answers : goal.returns-then-eq-clause-answers
returns-then-eq-clause-answers c =
    let words = begun c.args.words.now c.in-Some.words.now c.in-Some.verb.now _ _ c.in-Some.ensures.cases.0 c.if-eq.ensures
    c.as_slice.ensures in
    subst (λ (ws : List (List ℕ)). IfOk c.verify.result (λ reported. Answers ws reported.items)) (sym words) c.verify.ensures.answers

pub returns-then-eq-clause-no_question : goal.returns-then-eq-clause-no_question
returns-then-eq-clause-no_question c = λ e reported a.
    let words = begun c.args.words.now c.in-Some.words.now c.in-Some.verb.now _ _ c.in-Some.ensures.cases.0 c.if-eq.ensures
    c.as_slice.ensures in
    c.verify.ensures.no_question e reported (subst (λ (ws : List (List ℕ)). Answers ws reported) words a)

pub returns-then-eq-2-clause-answers : goal.returns-then-eq-2-clause-answers
returns-then-eq-2-clause-answers c =
    let words = begun c.args.words.now c.in-Some.words.now c.in-Some.verb.now _ _ c.in-Some.ensures.cases.0 c.if-eq-2.ensures
    c.as_slice-else-eq.ensures in
    subst (λ (ws : List (List ℕ)). IfOk c.sign_by_tree.result (λ reported. Answers ws reported.items)) (sym words) c.sign_by_tree.ensures.answers

pub returns-then-eq-2-clause-no_question : goal.returns-then-eq-2-clause-no_question
returns-then-eq-2-clause-no_question c = λ e reported a.
    let words = begun c.args.words.now c.in-Some.words.now c.in-Some.verb.now _ _ c.in-Some.ensures.cases.0 c.if-eq-2.ensures
    c.as_slice-else-eq.ensures in
    c.sign_by_tree.ensures.no_question e reported (subst (λ (ws : List (List ℕ)). Answers ws reported) words a)

pub returns-then-eq-3-clause-answers : goal.returns-then-eq-3-clause-answers
returns-then-eq-3-clause-answers c =
    let words = begun c.args.words.now c.in-Some.words.now c.in-Some.verb.now _ _ c.in-Some.ensures.cases.0 c.if-eq-3.ensures
    c.as_slice-else-eq-2.ensures in
    subst (λ (ws : List (List ℕ)). IfOk c.sign_by_levels.result (λ reported. Answers ws reported.items)) (sym words) c.sign_by_levels.ensures.answers

pub returns-then-eq-3-clause-no_question : goal.returns-then-eq-3-clause-no_question
returns-then-eq-3-clause-no_question c = λ e reported a.
    let words = begun c.args.words.now c.in-Some.words.now c.in-Some.verb.now _ _ c.in-Some.ensures.cases.0 c.if-eq-3.ensures
    c.as_slice-else-eq-2.ensures in
    c.sign_by_levels.ensures.no_question e reported (subst (λ (ws : List (List ℕ)). Answers ws reported) words a)
