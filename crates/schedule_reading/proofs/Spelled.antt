-- What reading answers, beside the grammar.
use Rattle.std.proofs.Common.{◌≡◌, ℕ, List, Result, Ok, Err, ap, subst, ◌∙◌}
use Rattle.std.specs.Prelude.{IfOk}
use Rattle.byte_defs.specs.Reads.{Makes}
use Rattle.byte_defs.proofs.Fields.{IsBytes}
use Rattle.replay_defs.specs.declared.Fault.{Fault}
use Rattle.replay_defs.specs.Schedules.{Schedule, IsSchedule, schedule_bytes}
use Rattle.replay_defs.specs.Reading.{schedule_of}
use Rattle.schedule_file.specs.declared.schedule.Schedule as code
use Rattle.schedule_fields.specs.declared.fault.ScheduleFault.{ScheduleFault}
use Rattle.schedule_fields.specs.Faults.{fault_of}
use Rattle.schedule_file.specs.Views.{schedule}
use Rattle.schedule_laws.proofs.Wholes.{read_is_spelled, spelled_is_read}

pub is_found : (bytes : List ℕ) (r : Result code.Schedule ScheduleFault) → IsBytes bytes → Makes fault_of schedule r (schedule_of bytes)
    → IfOk r (λ s. IsSchedule (schedule s))
is_found bytes (Ok s) fits made = (read_is_spelled bytes (schedule s) fits made).0
is_found bytes (Err e) fits made = tt

pub is_spelled : (bytes : List ℕ) (r : Result code.Schedule ScheduleFault) → IsBytes bytes → Makes fault_of schedule r (schedule_of bytes)
    → IfOk r (λ s. bytes ≡ schedule_bytes (schedule s))
is_spelled bytes (Ok s) fits made = (read_is_spelled bytes (schedule s) fits made).1
is_spelled bytes (Err e) fits made = tt

pub is_read : (bytes : List ℕ) (r : Result code.Schedule ScheduleFault) (s : Schedule) → IsSchedule s → bytes ≡ schedule_bytes s
    → Makes fault_of schedule r (schedule_of bytes) → Makes fault_of schedule r (Ok s)
is_read bytes r s fits spelled made = subst (λ (read : Result Schedule Fault). Makes fault_of schedule r read)
    (ap schedule_of spelled ∙ spelled_is_read s fits) made
