use Rattle.std.proofs.Common.{List, ℕ, subst}
use Rattle.std.proofs.lemmas.Result.{err_from_is_err_and}
use Rattle.interop_runs.specs.Questions.{AreCalls, AreDatagrams, IsText}
use Rattle.interop_runs.proofs.Asked.{fifth, first, fourth}
use Rattle.interop_runs.proofs.questions.question_of.Goals as goal

pub returns-in_err-words-clause-none : goal.returns-in_err-words-clause-none
returns-in_err-words-clause-none c = λ e q asks.
    let p = err_from_is_err_and c.from_residual.result c.from_residual.ensures.1 in
    c.in_err-words.ensures.none (cc (p.1, p.2, e)) q.words
    (subst (λ (w : List ℕ). IsText w q.words) (first _ _ _ _ _ _ _ _ _ _ _ _ asks.words_are) asks.said_is)

pub returns-in_err-failing-clause-none : goal.returns-in_err-failing-clause-none
returns-in_err-failing-clause-none c = λ e q asks.
    let p = err_from_is_err_and c.from_residual-in_err-failing.result c.from_residual-in_err-failing.ensures.1 in
    c.in_err-failing.ensures.none (cc (p.1, p.2, e)) q.failing
    (subst (λ (w : List ℕ). AreCalls w q.failing) (fourth _ _ _ _ _ _ _ _ _ _ _ _ asks.words_are) asks.fails_are)

pub returns-in_err-coming-clause-none : goal.returns-in_err-coming-clause-none
returns-in_err-coming-clause-none c = λ e q asks.
    let p = err_from_is_err_and c.from_residual-in_err-coming.result c.from_residual-in_err-coming.ensures.1 in
    c.in_err-coming.ensures.none (cc (p.1, p.2, e)) q.coming
    (subst (λ (w : List ℕ). AreDatagrams w q.coming) (fifth _ _ _ _ _ _ _ _ _ _ _ _ asks.words_are) asks.coming_are)
