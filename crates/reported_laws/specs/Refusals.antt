-- The refusals in a trace.
use Rattle.std.specs.Prelude.{◌≡◌, ℕ, List, [], ◌∷◌, ◌++◌, Option, None, Some, Ok, Err}
use Rattle.std.specs.List.{flat_map}
use Rattle.group_defs.specs.Events.{EventFault}
use Rattle.replay_defs.specs.Schedules.{ScheduleEvent, Header, Schedule}
use Rattle.replay_defs.specs.Worlds.{Refused, World, start_of, after_event, world_of}
use Rattle.trace_defs.specs.Happenings.{Happening, Takes}
use Rattle.reported_defs.specs.Reported.{tells}

-- the refusal of a process in the event of this number, if there is one
abbrev pub refusal_reported : ℕ → ℕ → Option EventFault → List Refused
refusal_reported n p None = []
refusal_reported n p (Some fault) = record { event = n; process = p; fault = fault } ∷ []

-- what is refused in what happens
abbrev pub refusals_in : ℕ → Happening → List Refused
refusals_in n (Takes p handed first o) = refusal_reported n p o.verdict
refusals_in n _ = []

-- what is refused in an event of a world
abbrev pub event_refusals : Header → World → ScheduleEvent → List Refused
event_refusals h w e = flat_map (refusals_in w.count) (tells h w e)

-- in these events, from a world on
unfoldable pub run_refusals : Header → World → List ScheduleEvent → List Refused
run_refusals h w [] = []
run_refusals h w (e ∷ es) = event_refusals h w e ++ elim (after_event h w e) [ Ok v ↦ run_refusals h v es | Err fault ↦ [] ]

-- the world of a schedule at its end has the refusals that its events report
abbrev pub RefusalsAreReported : Type 0
RefusalsAreReported = (sch : Schedule) (w : World) → world_of sch ≡ Ok w → w.refused ≡ run_refusals sch.header (start_of sch.header) sch.events
