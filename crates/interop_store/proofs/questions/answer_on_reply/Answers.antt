use Rattle.std.proofs.Common.{ap, ◌∙◌}
use Rattle.interop_store.specs.Telling.{reply_answer}
use Rattle.interop_store.proofs.QuestionLaws.{reply_answers}
use Rattle.interop_store.proofs.questions.answer_on_reply.Goals as goal

pub returns-clause-answers : goal.returns-clause-answers
returns-clause-answers c = reply_answers c.args.word.now c.in_ok-bytes.bytes.items c.in_ok-answer_reply.field-0.items
    c.in_ok-bytes.ensures.read (c.in_ok-answer_reply.ensures ∙ ap reply_answer c.deref.ensures.value)
