use Rattle.std.proofs.Common.{sym, subst}
use Rattle.text_defs.specs.Words.{Spells}
use Rattle.interop_pool.proofs.QuestionLaws.{pool_answers}
use Rattle.interop_pool.proofs.questions.answer_on_pool.Goals as goal

pub returns-clause-answers : goal.returns-clause-answers
returns-clause-answers c =
    pool_answers c.args.number.now c.args.members.now c.args.counts.now c.args.frame.now c.in_ok-number.number c.deref.result.now
    c.deref-2.result.now c.deref-3.result.now c.in_ok-answer_pool.field-0.items c.in_ok-number.ensures.read.0 c.in_ok-number.ensures.read.2
    (subst (Spells c.args.members.now) (sym c.deref.ensures.value) c.in_ok-members.ensures.read)
    (subst (Spells c.args.counts.now) (sym c.deref-2.ensures.value) c.in_ok-counts.ensures.read)
    (subst (Spells c.args.frame.now) (sym c.deref-3.ensures.value) c.in_ok-frame.ensures.read) c.in_ok-answer_pool.ensures
