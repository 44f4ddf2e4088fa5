use Rattle.std.proofs.Common.{ap, ◌∙◌}
use Rattle.interop_frames.specs.Frames.{frame_answer}
use Rattle.interop_frames.proofs.FrameLaws.{frame_answers}
use Rattle.interop_frames.proofs.frames.answer_on_frame.Goals as goal

pub returns-clause-answers : goal.returns-clause-answers
returns-clause-answers c = frame_answers c.args.word.now c.in_ok-bytes.bytes.items c.in_ok-answer_frame.field-0.items
    c.in_ok-bytes.ensures.read (c.in_ok-answer_frame.ensures ∙ ap frame_answer c.deref.ensures.value)
