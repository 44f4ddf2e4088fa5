-- The run of a schedule whose bytes still come, by the events that were read.
use Rattle.std.specs.Prelude.{◌≡◌, ◌-◌, ◌<◌, ◌^◌, List, [], ◌∷◌, ◌++◌, length, Option, None, Some, Ok, Err}
use Rattle.std.specs.Option.{option_map}
use Rattle.replay_defs.specs.Schedules.{Header, ScheduleEvent, IsEvent}
use Rattle.replay_defs.specs.Worlds.{World, WorldFault, run_events, start_of}
use Rattle.replay_defs.specs.Reports as plain
use Rattle.replay_report.specs.Runs.{Shows, count_of, World as CodeWorld, WorldFault as CodeFault}
use Rattle.replay_run.specs.Faults.{fault, fault_of_run}
use Rattle.replay_run.specs.declared.run.Run.{Run}
use Rattle.replay_run.specs.declared.run.Run.TheVariants.{Waits, Runs, Stops}

-- the world that the events lead to, after this header, and how many they are
pub record IsWorldAfter (h : Header) (es : List ScheduleEvent) (w : CodeWorld) : Type 0 where
  pub world : World
  pub leads : run_events h (start_of h) es ≡ Ok world
  pub shows : Shows h w world
  pub count : count_of w ≡ length es

-- The run of the events after this header: the world that they lead to, or the fault with which one of them stopped it.
abbrev pub IsRunOf : Header → List ScheduleEvent → Run → Type 0
IsRunOf h es (Runs w) = IsWorldAfter h es w
IsRunOf h es (Stops f) = (why : WorldFault) × (run_events h (start_of h) es ≡ Err why) × (fault f ≡ plain.Stops why)
IsRunOf h es Waits = ⊥

-- the run of the events after the header, or a run that waits while the header is not whole
abbrev pub HasRun : Option Header → List ScheduleEvent → Run → Type 0
HasRun (Some h) es run = IsRunOf h es run
HasRun None es run = run ≡ Waits

-- ---- one step

-- a run that waited has its header now, or waits on; any other is the same
abbrev pub Begins : Option Header → Run → Run → Type 0
Begins o Waits now = HasRun o [] now
Begins o (Runs w) now = now ≡ Runs w
Begins o (Stops f) now = now ≡ Stops f

-- of whichever events `run` was, `now` is the run of these and of e after them
abbrev pub RunsOn : ScheduleEvent → Run → Run → Type 0
RunsOn e run now = (h : Header) (es : List ScheduleEvent) → IsRunOf h es run → IsEvent h.processes e → IsRunOf h (es ++ e ∷ []) now

-- the next event still has a number
abbrev pub CanCount : Run → Type 0
CanCount (Runs w) = count_of w < 2 ^ 64 - 1
CanCount (Stops f) = Unit {0}
CanCount Waits = Unit {0}

-- the run was stopped by fault f
abbrev pub IsStoppedBy : CodeFault → Run → Type 0
IsStoppedBy f (Stops g) = option_map plain.Stops (fault_of_run f) ≡ Some (fault g)
IsStoppedBy f (Runs w) = ⊥
IsStoppedBy f Waits = ⊥
