use Rattle.std.proofs.Common.{ap, ◌∙◌, List, ℕ}
use Rattle.replay_defs.specs.Reading.{schedule_of}
use Rattle.interop_files.specs.Files.{schedule_said}
use Rattle.interop_files.proofs.FileLaws.{schedule_answers}
use Rattle.interop_files.proofs.questions.answer_on_schedule.Goals as goal

pub returns-clause-answers : goal.returns-clause-answers
returns-clause-answers c =
    schedule_answers c.args.word.now c.in_ok-bytes.bytes.items c.in_ok-answer_schedule.field-0.items c.in_ok-bytes.ensures.read
    (c.in_ok-answer_schedule.ensures ∙ ap (λ (bytes : List ℕ). schedule_said (schedule_of bytes)) c.deref.ensures.value)
