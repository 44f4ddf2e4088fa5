-- The end of the input: the schedule that was fed, and its report.
use Rattle.std.proofs.Common.{◌≡◌, ℕ, Bool, List, [], ◌++◌, Option, Some, None, Result, Ok, Err, refl, sym, ap, subst, ◌∙◌}
use Rattle.std.specs.Prelude.{IfSome}
use Rattle.std.proofs.lemmas.List.{append-nil}
use Rattle.replay_defs.specs.declared.Fault.{Fault}
use Rattle.replay_defs.specs.Schedules.{Header, Schedule, ScheduleEvent, IsHeader}
use Rattle.replay_defs.specs.Reading.{schedule_of}
use Rattle.replay_defs.specs.Worlds.{family_of}
use Rattle.replay_defs.specs.Reports as plain
use Rattle.replay_defs.specs.Reports.{report_if_run, report_of, report_by}
use Rattle.replay_defs.specs.Pieces.{Reading, WasFed, IsWhole}
use Rattle.schedule_fields.specs.declared.fault.ScheduleFault.{ScheduleFault}
use Rattle.schedule_fields.specs.Faults.{fault_of}
use Rattle.schedule_pieces.specs.Readers.{Ends, IsFault}
use Rattle.replay_report.specs.Runs.{World}
use Rattle.replay_run.specs.declared.fault.ReplayFault.{ReplayFault}
use Rattle.replay_run.specs.declared.fault.Stop.{Stop}
use Rattle.replay_run.specs.declared.run.Run.{Run}
use Rattle.replay_run.specs.declared.run.Run.TheVariants.{Runs, Stops}
use Rattle.replay_run.specs.Faults.{fault, fault_in, IsOfBytes}
use Rattle.replay_run.specs.Reported.{IsReported}
use Rattle.replay_run.specs.Running.{IsRunOf, HasRun}
use Rattle.replay_run.specs.Midway.{Holds, IsAfter}
use Rattle.replay_run.proofs.Headlines.{is_report_of}
use Rattle.replay_run.proofs.Faulting.{bytes_stop, read_so}

abbrev scheduled : Header → List ScheduleEvent → Schedule
scheduled h es = record { header = h; events = es }

-- the bytes are a schedule, and this is its run
pub record HasRunWhole (fed : List ℕ) (run : Run) : Type 0 where
  pub schedule : Schedule
  pub read : schedule_of fed ≡ Ok schedule
  pub header : IsHeader schedule.header
  pub ran : IsRunOf schedule.header schedule.events run

module _ (r : Reading) (run : Run) (fed : List ℕ) (after : IsAfter r run fed) (answer : Result (Unit {0}) ScheduleFault)
    (ends : (fed : List ℕ) (es : List ScheduleEvent) → WasFed r fed es → Ends r fed es answer)
    (again : (f : Fault) → r.fault ≡ Some f → IsFault f answer) where
  pub ran_whole : (u : Unit {0}) → answer ≡ Ok u → HasRunWhole fed run
  ran_whole u is = go r.fault refl after.midway.holds
    where
      go : (o : Option Fault) → r.fault ≡ o → Holds o r run fed → HasRunWhole fed run
      go None going has =
          let whole : IsWhole r fed has.0 = subst (Ends r fed has.0) is (ends fed has.0 has.1) in
          let all : has.0 ++ whole.others
          ≡ has.0 = ap (λ (es : List ScheduleEvent). has.0 ++ es) (whole.no_others (after.none_whole going)) ∙ append-nil has.0 in
          let range : IsHeader whole.header = subst (λ (o : Option Header). IfSome o IsHeader) whole.has_header after.midway.ranges in
          record {
            schedule = scheduled whole.header has.0;
            read = whole.spelled ∙ ap (λ (es : List ScheduleEvent). Ok (scheduled whole.header es)) all;
            header = range;
            ran = subst (λ (o : Option Header). HasRun o has.0 run) whole.has_header has.2;
          }
      go (Some f) stopped has = let wrong : IsFault f (Ok u) = subst (IsFault f) is (again f stopped) in absurd wrong

  -- the reader's fault is that of the bytes
  known : (e : ScheduleFault) → answer ≡ Err e → IfSome (fault_of e) (λ f. schedule_of fed ≡ Err f)
  known e is = go r.fault refl after.midway.holds
    where
      go : (o : Option Fault) → r.fault ≡ o → Holds o r run fed → IfSome (fault_of e) (λ f. schedule_of fed ≡ Err f)
      go None going has =
          let fails : Ends r fed has.0 (Err e) = subst (Ends r fed has.0) is (ends fed has.0 has.1) in
          subst (λ (o : Option Fault). IfSome o (λ f. schedule_of fed ≡ Err f)) (sym fails.1) fails.2
      go (Some f) stopped has =
          let same : IsFault f (Err e) = subst (IsFault f) is (again f stopped) in
          subst (λ (o : Option Fault). IfSome o (λ f. schedule_of fed ≡ Err f)) (sym same)
          (ap schedule_of (sym (append-nil fed)) ∙ has.0 [])

  pub no_schedule : (short : Bool) (e : ScheduleFault) (s : Stop) → answer ≡ Err e → IsOfBytes e s
      → IfSome (fault_in s) (λ f. report_of short fed ≡ Err f)
  no_schedule short e s is of = bytes_stop short fed (fault_of e) (fault_in s) of (known e is)

-- ---- the report

-- a run that stopped has none
pub stopped_whole : (short : Bool) (fed : List ℕ) (f : ReplayFault) → HasRunWhole fed (Stops f) → report_of short fed ≡ Err (fault f)
stopped_whole short fed f whole =
    read_so short fed whole.schedule whole.read
    ∙ (ap (report_if_run short whole.schedule) whole.ran.1 ∙ ap (λ (g : plain.ReplayFault). Err g) (sym whole.ran.2))

pub written_whole : (short : Bool) (fed : List ℕ) (w : World) (text : List ℕ) (whole : HasRunWhole fed (Runs w))
    → text ≡ report_by short whole.ran.world (family_of whole.schedule.header whole.ran.world)
    → (report_of short fed ≡ Ok text) × IsReported short fed text
written_whole short fed w text whole written = (
  read_so short fed whole.schedule whole.read ∙
      (ap (report_if_run short whole.schedule) whole.ran.leads ∙ ap (λ (t : List ℕ). Ok t) (sym written)),
  record {
    schedule = whole.schedule;
    read = whole.read;
    report = is_report_of short whole.schedule w text whole.header
        (record { world = whole.ran.world; is = whole.ran.leads; shows = whole.ran.shows }) written;
  },
)
