use Rattle.std.proofs.Common.{ap, ◌∙◌}
use Rattle.interop_store.specs.Telling.{state_answer}
use Rattle.interop_store.proofs.QuestionLaws.{state_answers}
use Rattle.interop_store.proofs.questions.answer_on_state.Goals as goal

pub returns-clause-answers : goal.returns-clause-answers
returns-clause-answers c = state_answers c.args.word.now c.in_ok-bytes.bytes.items c.in_ok-answer_state.field-0.items
    c.in_ok-bytes.ensures.read (c.in_ok-answer_state.ensures ∙ ap state_answer c.deref.ensures.value)
