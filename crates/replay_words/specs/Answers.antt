-- What `replay`, `gen` and `keygen` answer.
--
-- A stream says what it holds where its `left` or `written` is `Some bytes`, as streams in memory do. Standard input and output do
-- not: theirs is `None`. Of a stream that does not, `Consumes`, `IsAtEnd`, `Appends`, `AppendsPrefix` and `Keeps` hold whatever the
-- bytes. So where the source does not, `Replayed` and `Refused` say that there is an input that runs, or one that has no run, and not
-- that it is the one that was read; and where the sink does not, `Reported`, `ReportedInPart` and `Stopped` say nothing of what was
-- written. The contract is proved for every type of stream, so also for one that says it and is otherwise as the system's (docs/TESTED.md,
-- «What is trusted»). What is said by statuses and counts of faults holds of every stream.
-- Names here (* for this crate alone):
--   the bytes of an input: Runs, family, report_of_run, HasNoRun*
--   the headline is that of a report: Headline
--   the input: what a source had left before, and what it has left now: Replayed*, Refused*
--   the output: what a sink held before, and what it holds now: Reported, ReportedInPart, stop_line, Stopped
--   schedules: schedule_of_number
--   kits: kit_of_order
use Rattle.std.specs.Prelude.{◌≡◌, ℕ, Bool, ◌≤◌, List, ◌∷◌, ◌++◌, length, Option, IfSome, Ok, Err, codes}
use Rattle.std.specs.Io.KnownBytes.{Appends, Consumes, IsAtEnd}
use Rattle.text_defs.specs.Words.{line_text}
use Rattle.group_defs.specs.Family.{Family}
pub use Rattle.replay_run.specs.Reported.{Headline}
use Rattle.replay_defs.specs.Schedules.{Schedule, IsSchedule, schedule_bytes, most_bytes}
use Rattle.replay_defs.specs.Reading.{schedule_of}
use Rattle.replay_defs.specs.Worlds.{World, WorldFault, world_of, family_of}
use Rattle.replay_defs.specs.Reports.{ReplayFault, Stops, report_by, report_of, fault_words}
use Rattle.replay_defs.specs.Generator.{generated}
use Rattle.kit_defs.specs.Kits.{kit_text}
use Rattle.kit_defs.specs.KitMaking.{made_kit}
use Rattle.command_line.specs.Commands.{KitOrder}
use Rattle.rp_base.specs.Streams.{AppendsPrefix, WritesLine}

-- ---- the bytes of an input

-- The bytes are a schedule, and its world runs to its end.
pub record Runs (bytes : List ℕ) : Type 0 where
  pub schedule : Schedule
  pub fits : IsSchedule schedule
  pub spelled : bytes ≡ schedule_bytes schedule
  pub read : schedule_of bytes ≡ Ok schedule
  pub world : World
  pub ran : world_of schedule ≡ Ok world

-- the family of the schedule's correct processes, as they are at its end
abbrev pub family : {bytes : List ℕ} → Runs bytes → Family
family run = family_of run.schedule.header run.world

-- its report, long or short
abbrev pub report_of_run : {bytes : List ℕ} → Bool → Runs bytes → List ℕ
report_of_run short run = report_by short run.world (family run)

-- The bytes have no report, long or short, and this is why. Where they are a schedule, it is why its world stops.
pub record HasNoRun (bytes : List ℕ) : Type 0 where
  pub fault : ReplayFault
  pub none : (short : Bool) → report_of short bytes ≡ Err fault
  pub no_world : (s : Schedule) → IsSchedule s → bytes ≡ schedule_bytes s
      → (why : WorldFault) × (fault ≡ Stops why) × (world_of s ≡ Err why)

-- ---- the input: what a source had left before, and what it has left now

-- The input was read to its end, and it runs.
pub record Replayed (before now : Option (List ℕ)) : Type 0 where
  pub input : List ℕ
  pub taken : Consumes before now input
  pub ended : IsAtEnd now
  pub run : Runs input

-- What was read has no run. It is the whole input, or longer than a schedule may be. All that the source had left has none either,
-- for the same reason.
pub record Refused (before now : Option (List ℕ)) : Type 0 where
  pub input : List ℕ
  pub taken : Consumes before now input
  pub ended : length input ≤ most_bytes → IsAtEnd now
  pub none : HasNoRun input
  pub reported : IfSome before (λ all. (short : Bool) → report_of short all ≡ Err none.fault)

-- ---- the output: what a sink held before, and what it holds now

-- The report of the schedule's own family was written, long or short, and nothing else; and the headline holds of this family.
pub record Reported (short : Bool) (before now old new : Option (List ℕ)) : Type 0 where
  pub replayed : Replayed before now
  pub written : Appends old new (report_of_run short replayed.run)
  pub headline : Headline (family replayed.run)

-- a prefix of that report was written and nothing else
pub record ReportedInPart (short : Bool) (before now old new : Option (List ℕ)) : Type 0 where
  pub replayed : Replayed before now
  pub written : AppendsPrefix old new (report_of_run short replayed.run)

-- the line that says why there is no report
unfoldable pub stop_line : ReplayFault → List ℕ
stop_line fault = line_text (codes "stop" ∷ codes "7" ∷ fault_words fault)

-- The line of the input's fault was written, or the sink failed in the midst of it: by the count of its faults before and now.
pub record Stopped (before now old new : Option (List ℕ)) (faults faults_now : ℕ) : Type 0 where
  pub refused : Refused before now
  pub line : WritesLine (stop_line refused.none.fault) old new faults faults_now

-- ---- schedules

-- the bytes of the schedule that this number makes
abbrev pub schedule_of_number : ℕ → List ℕ
schedule_of_number number = schedule_bytes (generated number)

-- ---- kits

-- The text of the kit that is ordered, and the line that ends it.
abbrev pub kit_of_order : KitOrder → List ℕ
kit_of_order order = kit_text (made_kit order.members order.roster order.keys order.seed) ++ codes "go\n"
