-- What the bytes that wait begin with.
use Rattle.std.specs.Prelude.{◌≡◌, ℕ, ◌+◌, ◌-◌, ◌<◌, ◌≤◌, ◌⊎◌, List, length, take, drop, Option, Some, None, Result, Ok, Err}
use Rattle.replay_defs.specs.declared.FaultKind.TheVariants as faults
use Rattle.replay_defs.specs.declared.Found.{Found}
use Rattle.replay_defs.specs.declared.Fault.{Fault}
use Rattle.replay_defs.specs.Schedules.{most_bytes}
use Rattle.replay_defs.specs.Reading.{Roles, header_at, event_at, placed, too_long}
use Rattle.replay_defs.specs.Pieces.{IsShort}
use Rattle.schedule_file.specs.Views.{event}
use Rattle.schedule_header.specs.Heads.{head_of}
use Rattle.schedule_pieces.specs.declared.front.FirstPart.{FirstPart}
use Rattle.schedule_pieces.specs.declared.front.NextEvent.{NextEvent}
use Rattle.schedule_pieces.specs.declared.front.Stop.{Stop}
use Rattle.schedule_pieces.specs.declared.front.Stop.TheVariants as stops

-- this header is read, and what it does not take is left
abbrev pub IsFirst : List ℕ → FirstPart → Type 0
IsFirst bytes first = (header_at bytes ≡ Ok (head_of first.head, drop first.size bytes)) × (first.size ≤ length bytes)

-- and this event
abbrev pub IsNext : Roles → ℕ → List ℕ → NextEvent → Type 0
IsNext roles steps bytes next = (event_at roles steps bytes ≡ Ok (event next.event, drop next.size bytes)) × (next.size ≤ length bytes)

-- What was found is the input's fault, unless the bytes end within a field; past the limit they are too long then.
abbrev pub Decides : Found → ℕ → ℕ → Option Fault → Type 0
Decides found read fed None = (found.kind ≡ faults.Short) × (fed ≤ most_bytes)
Decides found read fed (Some fault) = ((found.kind ≡ faults.Short → ⊥) × (fault ≡ placed read found))
    ⊎ ((found.kind ≡ faults.Short) × (most_bytes < fed) × (fault ≡ too_long))

-- reading the next event within the limit ends in this fault
abbrev pub EndsIn : Roles → ℕ → ℕ → List ℕ → List ℕ → Fault → Type 0
EndsIn roles steps taken waiting within fault = (found : Found) × (event_at roles steps within ≡ Err found)
    × Decides found (taken + length within) (taken + length waiting) (Some fault)

-- After a header and events of `taken` bytes: the next event, nothing whole, or the input's fault.
abbrev pub BeginsSo : Roles → ℕ → ℕ → List ℕ → Result (Option NextEvent) Stop → Type 0
BeginsSo roles steps taken waiting (Ok (Some next)) = IsNext roles steps (take (most_bytes - taken) waiting) next
BeginsSo roles steps taken waiting (Ok None) = IsShort (event_at roles steps waiting) × (taken + length waiting ≤ most_bytes)
    × (length waiting < 65551)
BeginsSo roles steps taken waiting (Err (stops.Fault fault)) = EndsIn roles steps taken waiting (take (most_bytes - taken) waiting) fault
BeginsSo roles steps taken waiting (Err stops.NoMemory) = Unit {0}
