use Rattle.std.proofs.Common.{sym, subst}
use Rattle.text_defs.specs.Words.{Spells}
use Rattle.interop_pool.proofs.QuestionLaws.{convicted_answers}
use Rattle.interop_pool.proofs.convictions.answer_on_convicted.Goals as goal

pub returns-clause-answers : goal.returns-clause-answers
returns-clause-answers c =
    convicted_answers c.args.word.now c.deref.result.now c.in_ok-answer_convicted.field-0.items
    (subst (Spells c.args.word.now) (sym c.deref.ensures.value) c.in_ok-bytes.ensures.read) c.in_ok-answer_convicted.ensures
