-- What is wrong with an input that ends.
use Rattle.std.specs.Prelude.{◌≡◌, ℕ, ◌+◌, ◌<◌, ◌≤◌, List, length, Option, Some, None, Result, Ok, Err}
use Rattle.replay_defs.specs.declared.Found.{Found}
use Rattle.replay_defs.specs.declared.Fault.{Fault}
use Rattle.replay_defs.specs.Schedules.{ScheduleEvent, most_bytes}
use Rattle.replay_defs.specs.Reading.{Roles, events_at, placed, placed_past_limit, too_long}

-- some events were read, or this is what was found
abbrev pub AreLast : Result (List ScheduleEvent) Found → Option Found → Type 0
AreLast read None = (others : List ScheduleEvent) × (read ≡ Ok others)
AreLast read (Some found) = read ≡ Err found

-- the fault of `size` bytes, where those within the limit were read with this found
abbrev pub EndsBy : Option Found → ℕ → Option Fault → Type 0
EndsBy None size None = size ≤ most_bytes
EndsBy (Some found) size None = ⊥
EndsBy None size (Some fault) = (most_bytes < size) × (fault ≡ too_long)
EndsBy (Some found) size (Some fault) = (size ≤ most_bytes → fault ≡ placed size found)
    × (most_bytes < size → fault ≡ placed_past_limit found.kind (placed most_bytes found))

-- After a header: the bytes that wait within the limit are events, or have a fault; and this is the fault of all bytes.
abbrev pub EndsAt : Roles → ℕ → ℕ → List ℕ → List ℕ → Option Fault → Type 0
EndsAt roles steps taken waiting within fault = (found : Option Found) × AreLast (events_at roles (length within) steps within) found
    × EndsBy found (taken + length waiting) fault
