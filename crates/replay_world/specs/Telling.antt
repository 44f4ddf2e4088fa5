-- What is reported of what happens in a world.
use Rattle.std.specs.Prelude.{ℕ, List, [], ◌∷◌, length, if◌then◌else◌, drop, Some, None, slice_get}
use Rattle.group_defs.specs.Process.{Setting}
use Rattle.group_defs.specs.Events as group
use Rattle.replay_defs.specs.Schedules.{Header}
use Rattle.replay_defs.specs.Worlds as plain
use Rattle.trace_defs.specs.Outcomes.{seen}
use Rattle.trace_defs.specs.Happenings.{Happening, Takes}
use Rattle.reported_defs.specs.Reported.{gets_frame, loses, next_tells}
use Rattle.member_events.specs.declared.events.Outcome.{Outcome}
use Rattle.happenings.specs.Events.{IsOutcome}
use Rattle.happenings.specs.declared.reported.Handed.{Handed}
use Rattle.happenings.specs.declared.reported.Reported.{Reported}
use Rattle.happenings.specs.Reported.{handed, WasReported}
use Rattle.replay_world.specs.declared.world.World.{World}
use Rattle.replay_world.specs.Worlds.{Shows}

-- how many frames were sent
abbrev pub frame_count : World → ℕ
frame_count w = length w.traffic.frames.items

-- what came of an event at a process is reported
abbrev pub ReportsStep : Reported → ℕ → Handed → ℕ → Outcome → Reported → Type 0
ReportsStep old p what first r new = (o : group.Outcome) → IsOutcome o r → WasReported old (Takes p (handed what) first (seen o) ∷ []) new

-- of a world that this one shows, this is reported
abbrev pub ReportsOf : (Header → plain.World → List Happening) → World → Reported → Reported → Type 0
ReportsOf what w old new = (h : Header) (v : plain.World) → Shows h w v → WasReported old (what h v) new

-- a delivery that waits no more is made, or lost
abbrev pub arrives_or_lost : Setting → ℕ → plain.World → ℕ × ℕ → List Happening
arrives_or_lost s mask v d = if plain.is_in mask d.1 then gets_frame s v d.1 d.0 else loses v d

-- the oldest delivery, where one waits
abbrev pub oldest_tells : Setting → ℕ → plain.World → List Happening
oldest_tells s mask v = elim (slice_get v.pending 0) [ None ↦ [] | Some d ↦ next_tells s mask v d ]
