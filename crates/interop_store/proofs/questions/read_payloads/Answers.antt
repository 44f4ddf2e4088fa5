use Rattle.std.proofs.lemmas.Result.{err_from_is_err_and}
use Rattle.interop_store.proofs.QuestionLaws.{none-spelled}
use Rattle.interop_store.proofs.questions.read_payloads.Goals as goal

pub returns-in_err-payload-clause-none : goal.returns-in_err-payload-clause-none
returns-in_err-payload-clause-none c = λ e found s.
    let p = err_from_is_err_and c.from_residual.result c.from_residual.ensures.1 in
    none-spelled c.args.words.now c.loop-word.word-index _ c.loop-word-test.true (c.in_err-payload.ensures.none (cc (p.1, p.2, e))) found s
