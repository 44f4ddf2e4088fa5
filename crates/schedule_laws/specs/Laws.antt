-- That reading a schedule and spelling it undo each other, and that an input cut anywhere is read as the whole is, as laws of the
-- definitions.
use Rattle.std.specs.Prelude.{◌≡◌, ℕ, ◌+◌, ◌-◌, ◌≤◌, List, ◌++◌, length, Some, Ok, Err}
use Rattle.byte_defs.proofs.Fields.{IsBytes}
use Rattle.replay_defs.specs.declared.FaultKind.TheVariants as faults
use Rattle.replay_defs.specs.declared.Found.{Found}
use Rattle.replay_defs.specs.Schedules.{ScheduleEvent, Header, Schedule, IsSchedule, schedule_bytes, most_bytes}
use Rattle.replay_defs.specs.Reading.{Roles, roles_of, header_at, event_at, events_at, schedule_of}
use Rattle.replay_defs.specs.Pieces.{Reading, WasFed, IsWhole, readable}

-- the schedule that is read of bytes is in its ranges, and the bytes are its spelling
abbrev pub ReadIsSpelled : Type 0
ReadIsSpelled = (bytes : List ℕ) (s : Schedule) → IsBytes bytes → schedule_of bytes ≡ Ok s → IsSchedule s × (bytes ≡ schedule_bytes s)

-- a schedule in its ranges is read of its spelling
abbrev pub SpelledIsRead : Type 0
SpelledIsRead = (s : Schedule) → IsSchedule s → schedule_of (schedule_bytes s) ≡ Ok s

-- ---- in pieces

-- a header or an event that was read is the same, whatever follows its bytes
abbrev pub ReadingIgnoresRest : Type 0
ReadingIgnoresRest = (roles : Roles) (left : ℕ) (bytes more rest : List ℕ)
    → ((h : Header) → header_at bytes ≡ Ok (h, rest) → header_at (bytes ++ more) ≡ Ok (h, rest ++ more))
    × ((e : ScheduleEvent) → event_at roles left bytes ≡ Ok (e, rest) → event_at roles left (bytes ++ more) ≡ Ok (e, rest ++ more))

-- The next event's fault is that of the input, however it goes on, unless the bytes that were fed end within the event.
abbrev pub FaultIsFinal : Type 0
FaultIsFinal = (h : Header) (r : Reading) (fed : List ℕ) (es : List ScheduleEvent) (found : Found) → r.header ≡ Some h → WasFed r fed es
    → event_at (roles_of h.processes) r.steps (readable r) ≡ Err found → (found.kind ≡ faults.Short → ⊥)
    → (more : List ℕ) → schedule_of (fed ++ more) ≡ Err (record { kind = found.kind; place = r.taken + length (readable r) - found.left })

-- Where the events that wait are read to the end of an input within the limit, they and those that were given are the schedule's.
abbrev pub EndIsWhole : Type 0
EndIsWhole = (h : Header) (r : Reading) (fed : List ℕ) (es others : List ScheduleEvent) → r.header ≡ Some h → WasFed r fed es
    → events_at (roles_of h.processes) (length (readable r)) r.steps (readable r) ≡ Ok others → length fed ≤ most_bytes → IsWhole r fed es
