use Rattle.std.proofs.Common.{refl}
use Rattle.interop_files.specs.Files.{kit_fault_words, kit_said}
use Rattle.interop_files.proofs.FileLaws.{fault_reported}
use Rattle.interop_files.proofs.kits.answer_kit.Goals as goal

pub returns-in-Err : goal.returns-in-Err
returns-in-Err c = fault_reported kit_fault_words kit_said _ _ c.fault_words.result (λ f. refl) c.in-Err.ensures.exact c.fault_words.ensures
