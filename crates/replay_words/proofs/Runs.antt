-- What was read and written, by the report of what was read.
use Rattle.std.proofs.Common.{◌≡◌, ℕ, ◌<◌, ◌≤◌, Bool, List, ◌++◌, length, take, Option, None, Some, Result, Ok, Err, IfSome, refl, sym, ap, ◌∙◌, arith, inl, inr, length-append, subst}
use Rattle.std.specs.Prelude.{IsSomeAnd, IsOk, IsErr, IfOk, IfErr}
use Rattle.std.proofs.lemmas.Bool.{cases_lt, lt-ltb}
use Rattle.std.proofs.lemmas.List.{append-nil, take-append-le}
use Rattle.std.specs.Io.KnownBytes.{Appends, Consumes, IsAtEnd}
use Rattle.byte_defs.proofs.Fields.{IsBytes}
use Rattle.replay_defs.specs.declared.Fault.{Fault}
use Rattle.replay_defs.specs.Schedules.{Schedule, IsSchedule, schedule_bytes, most_bytes}
use Rattle.replay_defs.specs.Reading.{schedule_of}
use Rattle.replay_defs.specs.Worlds.{World, WorldFault, world_of}
use Rattle.replay_defs.specs.Reports.{ReplayFault, Stops, report_of, report_if_read, report_if_run}
use Rattle.schedule_laws.proofs.Wholes.{schedule_takes, schedule_again}
use Rattle.rp_base.specs.Streams.{AppendsPrefix, WritesLine}
use Rattle.replay_words.specs.Answers.{Runs, HasNoRun, Replayed, Refused, Reported, ReportedInPart, Stopped, report_of_run, stop_line}
use Rattle.replay_words.proofs.Headline.{headline}

-- ---- reports

-- the report of a schedule that was read
of-read : (short : Bool) (bytes : List ℕ) (r : Result Schedule Fault) → schedule_of bytes ≡ r
    → report_of short bytes ≡ report_if_read short r
unfolding report_of
of-read short bytes r read = ap (report_if_read short) read

-- bytes with a report run
pub record HasReport (short : Bool) (bytes reported : List ℕ) : Type 0 where
  pub run : Runs bytes
  pub reported_is : reported ≡ report_of_run short run

pub tells : (short : Bool) (bytes reported : List ℕ) → IsBytes bytes → report_of short bytes ≡ Ok reported → HasReport short bytes reported
tells short bytes reported fit e = of_reading (schedule_of bytes) refl (sym (of-read short bytes (schedule_of bytes) refl) ∙ e)
  where
    of_world : (sch : Schedule) → schedule_of bytes ≡ Ok sch → (r : Result World WorldFault) → world_of sch ≡ r
        → report_if_run short sch r ≡ Ok reported → HasReport short bytes reported
    of_world sch read (Err fault) ran e = absurd cc
    of_world sch read (Ok w) ran e =
        let takes = schedule_takes bytes sch fit read in
        record { run = record { schedule = sch; fits = takes.0; spelled = takes.1; read = read; world = w; ran = ran }; reported_is = cc }

    of_reading : (r : Result Schedule Fault) → schedule_of bytes ≡ r → report_if_read short r ≡ Ok reported → HasReport short bytes reported
    of_reading (Ok sch) is e = of_world sch is (world_of sch) refl e
    of_reading (Err fault) is e = absurd cc

has-report : (short : Bool) {bytes : List ℕ} (run : Runs bytes) → report_of short bytes ≡ Ok (report_of_run short run)
has-report short {bytes} run = of-read short bytes (Ok run.schedule) run.read ∙ ap (report_if_run short run.schedule) run.ran

-- ---- bytes without a report

-- they have none of either kind
neither : (short other : Bool) (bytes : List ℕ) (fault : ReplayFault) → report_of short bytes ≡ Err fault
    → report_of other bytes ≡ Err fault
neither short other bytes fault e = of_reading (schedule_of bytes) refl (sym (of-read short bytes (schedule_of bytes) refl) ∙ e)
  where
    of_world : (sch : Schedule) (r : Result World WorldFault) → report_if_run short sch r ≡ Err fault
        → report_if_run other sch r ≡ Err fault
    of_world sch (Ok w) e = absurd cc
    of_world sch (Err why) e = e

    of_reading : (r : Result Schedule Fault) → schedule_of bytes ≡ r → report_if_read short r ≡ Err fault
        → report_of other bytes ≡ Err fault
    of_reading (Ok sch) is e = of-read other bytes (Ok sch) is ∙ of_world sch (world_of sch) e
    of_reading (Err f) is e = of-read other bytes (Err f) is ∙ e

-- a schedule that they spell stops for this reason
stops : (short : Bool) (bytes : List ℕ) (fault : ReplayFault) → report_of short bytes ≡ Err fault
    → (s : Schedule) → IsSchedule s → bytes ≡ schedule_bytes s → (why : WorldFault) × (fault ≡ Stops why) × (world_of s ≡ Err why)
stops short bytes fault e s fits spelled = go (world_of s) refl
    (sym (of-read short bytes (Ok s) (ap schedule_of spelled ∙ schedule_again s fits)) ∙ e)
  where
    go : (r : Result World WorldFault) → world_of s ≡ r → report_if_run short s r ≡ Err fault
        → (why : WorldFault) × (fault ≡ Stops why) × (world_of s ≡ Err why)
    go (Ok w) is e = absurd cc
    go (Err why) is e = (why, cc, is)

pub no_run : (short : Bool) (bytes : List ℕ) (fault : ReplayFault) → report_of short bytes ≡ Err fault → HasNoRun bytes
no_run short bytes fault e = record {
  fault = fault;
  none = λ other. neither short other bytes fault e;
  no_world = stops short bytes fault e;
}

-- the line of their fault
pub none_reported : (short : Bool) (bytes : List ℕ) (fault : ReplayFault) (reported : List ℕ) → report_of short bytes ≡ Err fault
    → reported ≡ stop_line fault → (none : HasNoRun bytes) × (reported ≡ stop_line none.fault)
unfolding no_run
none_reported short bytes fault reported e is = (no_run short bytes fault e, is)

-- ---- what was read

-- behind the limit further bytes change nothing
schedule-past : (input rest : List ℕ) → 67108864 < length input → schedule_of (input ++ rest) ≡ schedule_of input
unfolding schedule_of most_bytes
schedule-past input rest lt =
    let long : 67108864 < length (input ++ rest) = omega (arith, length-append input rest) in
    let front : take 67108864 (input ++ rest) ≡ take 67108864 input = take-append-le 67108864 input rest (omega arith) in
    rw (lt-ltb 67108864 (length input) lt, lt-ltb 67108864 (length (input ++ rest)) long, front) refl

report-past : (short : Bool) (input rest : List ℕ) → 67108864 < length input → report_of short (input ++ rest) ≡ report_of short input
report-past short input rest lt =
    of-read short (input ++ rest) (schedule_of input) (schedule-past input rest lt) ∙ sym (of-read short input (schedule_of input) refl)

module _ (before now : Option (List ℕ)) (input : List ℕ) (taken : Consumes before now input)
    (ended : length input ≤ 67108864 → IsAtEnd now) where
  pub replayed : Runs input → Replayed before now
  unfolding most_bytes
  replayed run = record { input = input; taken = taken; ended = ended (let e = run.spelled in rw e run.fits.size); run = run }

  -- all that the source had left has none either
  all-reported : (o : Option (List ℕ)) → before ≡ o → (none : HasNoRun input)
      → IfSome o (λ all. (short : Bool) → report_of short all ≡ Err none.fault)
  all-reported None is none = tt
  all-reported (Some all) is none = with_rest now refl (subst (λ b. Consumes b now input) is taken)
    where
      with_rest : (n : Option (List ℕ)) → now ≡ n → Consumes (Some all) n input → (short : Bool) → report_of short all ≡ Err none.fault
      with_rest None at taken short = absurd taken
      with_rest (Some rest) at taken short =
          elim (cases_lt 67108864 (length input)) [
            | inl lt ↦ ap (report_of short) taken ∙ report-past short input rest lt ∙ none.none short
            | inr le ↦ ap (report_of short)
                (taken ∙ ap (λ (t : List ℕ). input ++ t) (subst IsAtEnd at (ended le)) ∙ append-nil input) ∙ none.none short
          ]

  pub refused : HasNoRun input → Refused before now
  unfolding most_bytes
  refused none = record { input = input; taken = taken; ended = ended; none = none; reported = all-reported before refl none }

  -- of a report that was made of it
  pub as_replayed : {A E : Type 0} (short : Bool) (reported : A → List ℕ) (r : Result A E)
      → IfOk r (λ a. (run : Runs input) × (reported a ≡ report_of_run short run))
      → IfOk r (λ a. (done : Replayed before now) × (reported a ≡ report_of_run short done.run))
  unfolding replayed
  as_replayed short reported (Ok a) r = (replayed r.0, r.1)
  as_replayed short reported (Err e) r = tt

  -- and of a line
  pub as_refused : {A E : Type 0} (reported : E → List ℕ) (r : Result A E)
      → IfErr r (λ e. (none : HasNoRun input) × (reported e ≡ stop_line none.fault))
      → IfErr r (λ e. (none : Refused before now) × (reported e ≡ stop_line none.none.fault))
  unfolding refused
  as_refused reported (Ok a) r = tt
  as_refused reported (Err e) r = (refused r.0, r.1)

-- ---- what was written

module _ (short : Bool) (before now old new : Option (List ℕ)) (reported : List ℕ)
    (done : (replayed : Replayed before now) × (reported ≡ report_of_run short replayed.run)) where
  pub replay_is_reported : Appends old new reported → Reported short before now old new
  replay_is_reported wrote = record {
    replayed = done.0;
    written = subst (Appends old new) done.1 wrote;
    headline = headline done.0.run.schedule done.0.run.world done.0.run.fits done.0.run.ran;
  }

  pub reported_in_part : AppendsPrefix old new reported → ReportedInPart short before now old new
  reported_in_part wrote = record { replayed = done.0; written = subst (AppendsPrefix old new) done.1 wrote }

pub stopped : (before now old new : Option (List ℕ)) (line : List ℕ) (f f' : ℕ)
    → (none : Refused before now) × (line ≡ stop_line none.none.fault) → WritesLine line old new f f' → Stopped before now old new f f'
stopped before now old new line f f' none said = record { refused = none.0; line = subst (λ (l : List ℕ). WritesLine l old new f f') none.1 said }

-- ---- what a source told

ok-and-err : {A E : Type 0} (r : Result A E) → IsOk r → IsErr r → ⊥
ok-and-err (Ok a) ok err = absurd cc
ok-and-err (Err e) ok err = absurd cc

-- what was replayed has a report
pub replayed_reported : (short : Bool) (before now : Option (List ℕ)) → Replayed before now
    → ¬ IsSomeAnd before (λ reported. IsErr (report_of short reported))
replayed_reported short None now replayed none = none
replayed_reported short (Some reported) None replayed none = absurd replayed.taken
replayed_reported short (Some reported) (Some rest) replayed none =
    let whole : reported ≡ replayed.input = replayed.taken ∙ ap
    (λ (t : List ℕ). replayed.input ++ t) replayed.ended ∙ append-nil replayed.input in
    ok-and-err (report_of short reported) (rw (ap (report_of short) whole ∙ has-report short replayed.run) refl) none

-- what was refused has none
pub refused_reported : (short : Bool) (before now : Option (List ℕ)) → Refused before now
    → ¬ IsSomeAnd before (λ reported. IsOk (report_of short reported))
refused_reported short None now refused some = some
refused_reported short (Some reported) now refused some = ok-and-err (report_of short reported) some (rw (refused.reported short) refl)
