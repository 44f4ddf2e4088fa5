-- A reader of a schedule and a run, by the bytes that were fed.
use Rattle.std.specs.Prelude.{◌≡◌, ℕ, ◌+◌, ◌≤◌, List, [], ◌++◌, length, Option, None, Some, IfSome, Err}
use Rattle.byte_defs.proofs.Fields.{IsBytes}
use Rattle.replay_defs.specs.declared.Fault.{Fault}
use Rattle.replay_defs.specs.Schedules.{ScheduleEvent, IsHeader}
use Rattle.replay_defs.specs.Reading.{schedule_of}
use Rattle.replay_defs.specs.Pieces.{Reading, WasFed, NoneWhole, most_waiting}
use Rattle.replay_run.specs.declared.run.Run.{Run}
use Rattle.replay_run.specs.Running.{HasRun, RunsOn, CanCount}

-- The run is that of the events that were read; or the bytes have this fault, however they go on, and then it counts no more.
abbrev pub Holds : Option Fault → Reading → Run → List ℕ → Type 0
Holds None r run fed = (es : List ScheduleEvent) × WasFed r fed es × HasRun r.header es run
Holds (Some f) r run fed = ((more : List ℕ) → schedule_of (fed ++ more) ≡ Err f) × (r.waiting ≡ [])

-- these bytes were fed, and some of the events that are whole were run
pub record IsMidway (r : Reading) (run : Run) (fed : List ℕ) : Type 0 where
  pub bytes : IsBytes fed
  pub ranges : IfSome r.header IsHeader
  pub holds : Holds r.fault r run fed

-- these bytes were fed, all events that are whole were run, and a piece more has room
pub record IsAfter (r : Reading) (run : Run) (fed : List ℕ) : Type 0 where
  pub midway : IsMidway r run fed
  pub none_whole : r.fault ≡ None → NoneWhole r.header r
  pub room : length r.waiting + 65536 ≤ most_waiting

-- some bytes were fed, and some of the events that are whole were run; which bytes is left open
abbrev pub IsMidwayThere : Reading → Run → Type 0
IsMidwayThere r run = ∥ ((fed : List ℕ) × IsMidway r run fed) ∥₁

-- some bytes were fed, and all events that are whole were run; which bytes is left open
abbrev pub IsReal : Reading → Run → Type 0
IsReal r run = ∥ ((fed : List ℕ) × IsAfter r run fed) ∥₁

-- the next event is there, and is still to be run; or none is
abbrev pub Gives : Reading → Run → List ℕ → Option ScheduleEvent → Type 0
Gives r run fed (Some e) = CanCount run × ((now : Run) → RunsOn e run now → IsMidway r now fed)
Gives r run fed None = IsAfter r run fed
