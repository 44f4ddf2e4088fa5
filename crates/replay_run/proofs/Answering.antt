-- What a reader of the code answers for the next event.
use Rattle.std.proofs.Common.{◌≡◌, ℕ, ◌<◌, List, length, Option, Some, None, Result, Ok, Err, refl, ap, ◌∙◌}
use Rattle.std.specs.Prelude.{IfSome}
use Rattle.std.specs.Option.{option_map}
use Rattle.replay_defs.specs.declared.Fault.{Fault}
use Rattle.replay_defs.specs.Schedules as plain
use Rattle.replay_defs.specs.Reports as reports
use Rattle.replay_defs.specs.Pieces.{Reading, WasFed, GivesNext}
use Rattle.schedule_file.specs.declared.schedule.ScheduleEvent.{ScheduleEvent}
use Rattle.schedule_file.specs.Views.{event}
use Rattle.schedule_fields.specs.declared.fault.ScheduleFault.{ScheduleFault}
use Rattle.schedule_fields.specs.Faults.{fault_of}
use Rattle.schedule_pieces.specs.Readers.{plainly, LeavesRoom, MovesOn}
use Rattle.replay_run.specs.declared.fault.ReplayFault.{ReplayFault}
use Rattle.replay_run.specs.declared.run.Run.{Run}
use Rattle.replay_run.specs.Faults.{fault}
use Rattle.replay_run.specs.Midway.{IsMidway, IsAfter, Gives}
use Rattle.replay_run.proofs.Feeding.{gives_event, gives_none, gives_fault}

-- an event makes what waits shorter
pub moves_on : (old new : Reading) (next : Option ScheduleEvent) → MovesOn old new (Ok next)
    → IfSome next (λ e. length new.waiting < length old.waiting)
moves_on old new (Some e) moves = moves
moves_on old new None moves = tt

module _ (old new : Reading) (run : Run) (fed : List ℕ) (midway : IsMidway old run fed)
    (answer : Result (Option ScheduleEvent) ScheduleFault)
    (gives : (fed : List ℕ) (es : List plain.ScheduleEvent) → WasFed old fed es → GivesNext fed es new (plainly answer))
    (again : (f : Fault) → old.fault ≡ Some f → (new ≡ old) × (plainly answer ≡ Err (Some f))) (moves : MovesOn old new answer)
    (room : LeavesRoom new answer) where
  pub gives_next : (next : Option ScheduleEvent) → answer ≡ Ok next → Gives new run fed (option_map event next)
  gives_next (Some e) is = gives_event old new run fed midway (plainly answer) gives again (event e) (ap plainly is)
  gives_next None is = gives_none old new run fed midway (plainly answer) gives again (ap plainly is) (rw is at moves) (rw is at room)

  pub gives_stop : (e : ScheduleFault) (g : ReplayFault) → answer ≡ Err e
      → (let o : Option reports.ReplayFault = Some (fault g) in o) ≡ option_map reports.NoSchedule (fault_of e) → IsAfter new run fed
  gives_stop e g is of = go (fault_of e) refl of
    where
      go : (o : Option Fault) → fault_of e ≡ o
          → (let s : Option reports.ReplayFault = Some (fault g) in s) ≡ option_map reports.NoSchedule o → IsAfter new run fed
      go None at of = absurd cc
      go (Some f) at of =
          let same : MovesOn old new (Err e) = rw is at moves in
          gives_fault old new run fed midway (plainly answer) gives again f (ap plainly is ∙ ap (λ (o : Option Fault). Err o) at) same.1
