use Rattle.std.proofs.Common.{List, ℕ, sym, subst}
use Rattle.std.proofs.lemmas.Result.{err_from_is_err_and}
use Rattle.interop_runs.specs.Questions.{Asks, question}
use Rattle.interop_runs.proofs.Asked.{seven_words}
use Rattle.interop_runs.proofs.questions.answer_runs.Goals as goal

pub returns-in_err-asked-in-len7-clause-no_question : goal.returns-in_err-asked-in-len7-clause-no_question
returns-in_err-asked-in-len7-clause-no_question g c = λ e reported a.
    let p = err_from_is_err_and c.from_residual.result c.from_residual.ensures.1 in
    let words = seven_words c.args.words.now _ _ _ c.in-len7.len_at_least c.in-len7.len_below c.eq.ensures c.if-eq.true
    c.as_slice.ensures in
    c.in_err-asked-in-len7.ensures.none (cc (p.1, p.2, e)) a.question
    (subst (λ (ws : List (List ℕ)). Asks ws a.question) words a.asked)

pub returns-in_ok-run-in-len7-clause-answers : goal.returns-in_ok-run-in-len7-clause-answers
returns-in_ok-run-in-len7-clause-answers g c =
    let words = seven_words c.args.words.now _ _ _ c.in-len7.len_at_least c.in-len7.len_below c.eq.ensures c.if-eq.true
    c.as_slice.ensures in
    let asked = question c.in_ok-asked-in-len7.asked in
    record {
      question = asked;
      asked = subst (λ (ws : List (List ℕ)). Asks ws asked) (sym words) c.in_ok-asked-in-len7.ensures.read;
      is_reported = c.in_ok-run-in-len7.ensures;
    }
