use Rattle.std.proofs.Common.{refl}
use Rattle.interop_files.specs.Files.{schedule_fault_words, schedule_said}
use Rattle.interop_files.proofs.FileLaws.{fault_reported}
use Rattle.interop_files.proofs.schedules.answer_schedule.Goals as goal

pub returns-in-Err : goal.returns-in-Err
returns-in-Err c =
    fault_reported schedule_fault_words schedule_said _ _ c.fault_words.result (λ f. refl) c.in-Err.ensures.exact c.fault_words.ensures
