-- What a reader sees and answers, as plain data.
use Rattle.std.specs.Prelude.{◌≡◌, ℕ, ◌+◌, ◌-◌, ◌<◌, ◌≤◌, List, [], ◌++◌, length, drop, Option, Some, None, Result, Ok, Err}
use Rattle.replay_defs.specs.declared.Fault.{Fault}
use Rattle.replay_defs.specs.Schedules as plain
use Rattle.replay_defs.specs.Schedules.{Header, most_bytes}
use Rattle.replay_defs.specs.Reading.{roles_of, schedule_of}
use Rattle.replay_defs.specs.Pieces.{Reading, WasFed, NoneWhole, IsWhole, EndsSo, readable, most_waiting}
use Rattle.schedule_file.specs.declared.schedule.ScheduleEvent.{ScheduleEvent}
use Rattle.schedule_file.specs.Views.{event}
use Rattle.schedule_fields.specs.declared.fault.ScheduleFault.{ScheduleFault}
use Rattle.schedule_fields.specs.Faults.{fault_of}
use Rattle.schedule_pieces.specs.Fronts.{IsNext}
use Rattle.schedule_pieces.specs.declared.front.NextEvent.{NextEvent}
use Rattle.schedule_pieces.specs.declared.front.Stop.{Stop}
use Rattle.schedule_pieces.specs.declared.front.Stop.TheVariants as stops

-- ---- answers

-- what is answered for the next event; want of memory is no fault of the input
abbrev pub plainly : Result (Option ScheduleEvent) ScheduleFault → Result (Option plain.ScheduleEvent) (Option Fault)
plainly (Ok (Some e)) = Ok (Some (event e))
plainly (Ok None) = Ok None
plainly (Err e) = Err (fault_of e)

-- what is answered at the end of the input, which is never want of memory
abbrev pub Ends : Reading → List ℕ → List plain.ScheduleEvent → Result (Unit {0}) ScheduleFault → Type 0
Ends r fed es (Ok _) = IsWhole r fed es
Ends r fed es (Err e) = (fault : Fault) × (fault_of e ≡ Some fault) × EndsSo r fed es (Err fault)

-- it is this fault
abbrev pub IsFault : Fault → Result (Unit {0}) ScheduleFault → Type 0
IsFault fault (Ok _) = ⊥
IsFault fault (Err e) = fault_of e ≡ Some fault

-- where nothing whole waits, a piece of 65,536 bytes has room
abbrev pub LeavesRoom : Reading → Result (Option ScheduleEvent) ScheduleFault → Type 0
LeavesRoom r (Ok None) = length r.waiting + 65536 ≤ most_waiting
LeavesRoom r (Ok (Some e)) = Unit {0}
LeavesRoom r (Err e) = Unit {0}

-- An event that is given waits no longer; nothing else is added to the bytes that wait. An error leaves the header as it is.
abbrev pub MovesOn : Reading → Reading → Result (Option ScheduleEvent) ScheduleFault → Type 0
MovesOn r now (Ok (Some e)) = length now.waiting < length r.waiting
MovesOn r now (Ok None) = now ≡ r
MovesOn r now (Err e) = (length now.waiting ≤ length r.waiting) × (now.header ≡ r.header)

-- ---- on the way there

-- the event at the front, nothing whole, or the input's fault, however it goes on
abbrev pub SeesFront : Reading → Result (Option NextEvent) Stop → Type 0
SeesFront r (Ok (Some next)) = (h : Header) × (r.header ≡ Some h) × IsNext (roles_of h.processes) r.steps (readable r) next
SeesFront r (Ok None) = NoneWhole r.header r × (r.taken + length r.waiting ≤ most_bytes) × (length r.waiting < 65551)
SeesFront r (Err (stops.Fault fault)) = (fed : List ℕ) (es : List plain.ScheduleEvent) → WasFed r fed es → (more : List ℕ)
    → schedule_of (fed ++ more) ≡ Err fault
SeesFront r (Err stops.NoMemory) = Unit {0}

-- what is known after an event of `size` bytes and `steps` steps
abbrev pub given : ℕ → ℕ → Reading → Reading
given size steps r = record {
  header = r.header;
  taken = r.taken + size;
  waiting = drop size r.waiting;
  steps = r.steps - steps;
  fault = r.fault;
}

-- what is wrong with the input, where it ends here
abbrev pub SeesEnd : Reading → Option Fault → Type 0
SeesEnd r None = (fed : List ℕ) (es : List plain.ScheduleEvent) → WasFed r fed es → IsWhole r fed es
SeesEnd r (Some fault) = (fed : List ℕ) (es : List plain.ScheduleEvent) → WasFed r fed es → schedule_of fed ≡ Err fault
