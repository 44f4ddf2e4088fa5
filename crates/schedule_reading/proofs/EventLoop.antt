-- Reading events one after the other, as a loop does.
use Rattle.std.proofs.Common.{◌≡◌, ℕ, ◌-◌, ◌<◌, List, [], ◌∷◌, ◌++◌, length, Result, Ok, sym, ◌∙◌, arith}
use Rattle.byte_defs.specs.Reads.{Fails}
use Rattle.replay_defs.specs.declared.Found.{Found}
use Rattle.replay_defs.specs.Schedules.{ScheduleEvent, steps_of, most_steps}
use Rattle.replay_defs.specs.Reading.{Roles, event_at, events_at}
use Rattle.schedule_fields.specs.Faults.{found_of}
use Rattle.schedule_fields.specs.declared.fault.ReadError.{ReadError}
use Rattle.schedule_fields.specs.declared.fault.ReadError.TheVariants as errors
use Rattle.schedule_laws.proofs.Turns.{behind_events, none_before, all_from, one_more, no_more, all_read}

module _ (roles : Roles) where
  pub begins : (bytes : List ℕ) → behind_events [] (all_from roles 1000000 bytes) ≡ events_at roles (length bytes) most_steps bytes
  unfolding most_steps
  begins bytes = none_before (all_from roles 1000000 bytes)

  pub goes_on : (left : ℕ) (bytes : List ℕ) (e : ScheduleEvent) (after : List ℕ) (before : List ScheduleEvent)
      (all : Result (List ScheduleEvent) Found) → event_at roles left bytes ≡ Ok (e, after)
      → behind_events before (all_from roles left bytes) ≡ all
      → behind_events (before ++ e ∷ []) (all_from roles (left - steps_of e) after) ≡ all
  goes_on left bytes e after before all read so_far = sym (one_more roles left bytes before e after read) ∙ so_far

  pub fails : (left : ℕ) (bytes : List ℕ) (e : ReadError) (before : List ScheduleEvent) (all : Result (List ScheduleEvent) Found)
      → 0 < length bytes → Fails found_of e (event_at roles left bytes)
      → behind_events before (all_from roles left bytes) ≡ all → Fails found_of e all
  fails left bytes errors.NoMemory before all some bad so_far = tt
  fails left bytes (errors.Found f) before all some bad so_far = sym so_far ∙ no_more roles left bytes before f (omega arith) bad

  pub is_done : (left : ℕ) (bytes : List ℕ) (before : List ScheduleEvent) (all : Result (List ScheduleEvent) Found) → length bytes ≡ 0
      → behind_events before (all_from roles left bytes) ≡ all → all ≡ Ok before
  is_done left bytes before all none so_far = sym so_far ∙ all_read roles left bytes before none
