-- Reading a schedule in pieces: bytes are fed, and each event is given as soon as it is whole. However the bytes are cut, what is given
-- and what is refused is that of all of them in one.
-- Names here (* for this crate alone):
--   Reading, most_waiting, AreRead, within_limit, readable, HasGiven, WasFed, IsShort, NoneWhole, GivesNext, IsWhole, EndsSo
use Rattle.std.specs.Prelude.{◌≡◌, ℕ, ◌+◌, ◌-◌, ◌≤◌, List, [], ◌∷◌, ◌++◌, length, take, Option, None, Some, Result, Ok, Err, IsErr}
use Rattle.replay_defs.specs.declared.FaultKind.TheVariants as faults
use Rattle.replay_defs.specs.declared.Found.{Found}
use Rattle.replay_defs.specs.declared.Fault.{Fault}
use Rattle.replay_defs.specs.Schedules.{ScheduleEvent, Header, steps_of, most_steps, most_bytes}
use Rattle.replay_defs.specs.Reading.{Roles, roles_of, header_at, event_at, schedule_of}

-- what is known of an input on its way
pub record Reading : Type 0 where
  -- once it is whole
  pub header : Option Header
  -- how many bytes belong to the header and to events that were given
  pub taken : ℕ
  -- the bytes that were fed and belong to none of them
  pub waiting : List ℕ
  -- how many steps are left to the events that follow
  pub steps : ℕ
  -- why reading stopped
  pub fault : Option Fault

-- how many bytes wait at most: a window for the longest event and two pieces of 65,536
unfoldable pub most_waiting : ℕ
most_waiting = 196608

-- These events are read from the bytes one after another; of `left` steps `steps` are left then, and of the bytes `rest`.
abbrev pub AreRead : Roles → ℕ → List ℕ → List ScheduleEvent → ℕ → List ℕ → Type 0
AreRead roles left bytes [] steps rest = (left ≡ steps) × (bytes ≡ rest)
AreRead roles left bytes (e ∷ es) steps rest =
    (after : List ℕ) × (event_at roles left bytes ≡ Ok (e, after)) × AreRead roles (left - steps_of e) after es steps rest

-- the part of bytes that is read: those past the limit are not
abbrev pub within_limit : List ℕ → List ℕ
within_limit fed = take most_bytes fed

-- the part of the waiting bytes that is read: those past the limit are not
abbrev pub readable : Reading → List ℕ
readable r = take (most_bytes - r.taken) r.waiting

-- before the header is whole all bytes wait; after it the events were read, and the others wait
abbrev pub HasGiven : Option Header → Reading → List ℕ → List ScheduleEvent → Type 0
HasGiven None r fed es = (es ≡ []) × (r.waiting ≡ fed) × (r.steps ≡ most_steps) × IsErr (header_at fed)
HasGiven (Some h) r fed es =
    (first : List ℕ) × (header_at (within_limit fed) ≡ Ok (h, first))
    × AreRead (roles_of h.processes) most_steps first es r.steps (readable r)

-- these bytes were fed and these events given, and no fault was found
pub record WasFed (r : Reading) (fed : List ℕ) (es : List ScheduleEvent) : Type 0 where
  pub unstopped : r.fault ≡ None
  pub size : r.taken + length r.waiting ≡ length fed
  pub below : r.taken ≤ most_bytes
  pub given : HasGiven r.header r fed es

-- a step ends within a field
abbrev pub IsShort : {A : Type 0} → Result A Found → Type 0
IsShort (Ok x) = ⊥
IsShort (Err found) = found.kind ≡ faults.Short

-- Nothing whole waits: the bytes end within the header or an event, or after the last one, where reading ends within the next event's tag.
abbrev pub NoneWhole : Option Header → Reading → Type 0
NoneWhole None r = IsShort (header_at r.waiting)
NoneWhole (Some h) r = IsShort (event_at (roles_of h.processes) r.steps r.waiting)

-- What is answered where the next event is asked for: the event after those that were given; nothing; the fault of the input, however
-- it goes on; or want of memory.
abbrev pub GivesNext : List ℕ → List ScheduleEvent → Reading → Result (Option ScheduleEvent) (Option Fault) → Type 0
GivesNext fed es r (Ok (Some e)) = WasFed r fed (es ++ e ∷ [])
GivesNext fed es r (Ok None) = WasFed r fed es × NoneWhole r.header r × (length fed ≤ most_bytes)
GivesNext fed es r (Err (Some fault)) = ((more : List ℕ) → schedule_of (fed ++ more) ≡ Err fault) × (r.fault ≡ Some fault)
    × (r.waiting ≡ [])
GivesNext fed es r (Err None) = WasFed r fed es

-- The events that still wait, where the input is whole.
pub record IsWhole (r : Reading) (fed : List ℕ) (es : List ScheduleEvent) : Type 0 where
  pub header : Header
  pub others : List ScheduleEvent
  pub has_header : r.header ≡ Some header
  pub spelled : schedule_of fed ≡ Ok (record { header = header; events = es ++ others })
  -- none do where none was whole
  pub no_others : NoneWhole r.header r → others ≡ []

-- what is answered at the end of the input: it is a schedule, or this is its fault
abbrev pub EndsSo : Reading → List ℕ → List ScheduleEvent → Result (Unit {0}) Fault → Type 0
EndsSo r fed es (Ok _) = IsWhole r fed es
EndsSo r fed es (Err fault) = schedule_of fed ≡ Err fault
