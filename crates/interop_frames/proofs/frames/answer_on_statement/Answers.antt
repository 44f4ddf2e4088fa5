use Rattle.std.proofs.Common.{ap, ◌∙◌}
use Rattle.interop_frames.specs.Frames.{statement_answer}
use Rattle.interop_frames.proofs.FrameLaws.{statement_answers}
use Rattle.interop_frames.proofs.frames.answer_on_statement.Goals as goal

pub returns-clause-answers : goal.returns-clause-answers
returns-clause-answers c = statement_answers c.args.word.now c.in_ok-bytes.bytes.items c.in_ok-answer_statement.field-0.items
    c.in_ok-bytes.ensures.read (c.in_ok-answer_statement.ensures ∙ ap statement_answer c.deref.ensures.value)
