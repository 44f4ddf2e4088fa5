use Rattle.std.proofs.Common.{ap, ◌∙◌, List, ℕ}
use Rattle.kit_defs.specs.KitReading.{kit_of}
use Rattle.interop_files.specs.Files.{kit_said}
use Rattle.interop_files.proofs.FileLaws.{kit_answers}
use Rattle.interop_files.proofs.questions.answer_on_kit.Goals as goal

pub returns-clause-answers : goal.returns-clause-answers
returns-clause-answers c =
    kit_answers c.args.word.now c.in_ok-bytes.bytes.items c.in_ok-answer_kit.field-0.items c.in_ok-bytes.ensures.read
    (c.in_ok-answer_kit.ensures ∙ ap (λ (bytes : List ℕ). kit_said (kit_of bytes)) c.deref.ensures.value)
