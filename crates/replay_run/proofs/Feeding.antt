-- A piece more, and the events that are whole then.
use Rattle.std.proofs.Common.{◌≡◌, ℕ, zero, suc, ◌+◌, ◌≤◌, List, [], ◌∷◌, ◌++◌, length, Option, Some, None, Result, Ok, Err, refl, sym, ap, subst, ◌∙◌, arith, append_assoc}
use Rattle.std.specs.Prelude.{IfSome, IsSome}
use Rattle.std.proofs.lemmas.List.{append-nil}
use Rattle.byte_defs.proofs.Fields.{IsBytes}
use Rattle.replay_defs.specs.declared.Fault.{Fault}
use Rattle.replay_defs.specs.Schedules.{Header, ScheduleEvent, IsHeader, IsEvent, most_bytes}
use Rattle.replay_defs.specs.Reading.{schedule_of}
use Rattle.replay_defs.specs.Pieces.{Reading, WasFed, NoneWhole, GivesNext, most_waiting}
use Rattle.schedule_laws.proofs.Pieces.{nothing_taken}
use Rattle.replay_run.specs.declared.run.Run.{Run}
use Rattle.replay_run.specs.declared.run.Run.TheVariants.{Waits, Runs, Stops}
use Rattle.replay_run.specs.Running.{IsRunOf, HasRun, Begins, CanCount}
use Rattle.replay_run.specs.Midway.{Holds, IsMidway, IsAfter, Gives}
use Rattle.replay_run.specs.declared.under_way.Replay.{Replay}
use Rattle.replay_run.specs.Fed.{HasFed}
use Rattle.replay_run.proofs.Grammar.{header_stays, header_ranges, events_ranges, last_in, some_header, none_yet}

-- ---- at first

pub nothing_fed : (r : Reading) → WasFed r [] [] → IsAfter r Waits []
unfolding most_waiting
nothing_fed r stands =
    let none = none_yet r stands in
    record {
      midway = record {
        bytes = λ i. omega arith;
        ranges = subst (λ (o : Option Header). IfSome o IsHeader) (sym none.0) tt;
        holds = subst (λ (o : Option Fault). Holds o r Waits []) (sym stands.unstopped)
            ([], stands, subst (λ (o : Option Header). HasRun o [] Waits) (sym none.0) refl);
      };
      none_whole = λ going. subst (λ (o : Option Header). NoneWhole o r) (sym none.0) none.2;
      room = rw none.1 (omega arith);
    }

-- ---- a piece

IsBytes-append : (xs ys : List ℕ) → IsBytes xs → IsBytes ys → IsBytes (xs ++ ys)
IsBytes-append [] ys fits more i = more i
IsBytes-append (x ∷ xs) ys fits more zero = fits 0
IsBytes-append (x ∷ xs) ys fits more (suc i) = IsBytes-append xs ys (λ j. fits (suc j)) more i

module _ (old new : Reading) (run : Run) (fed piece : List ℕ) (after : IsAfter old run fed) (fits : IsBytes piece)
    (feeds : (fed : List ℕ) (es : List ScheduleEvent) → WasFed old fed es → WasFed new (fed ++ piece) es)
    (stopped : IsSome old.fault → new ≡ old) where
  all_fit : IsBytes (fed ++ piece)
  all_fit = IsBytes-append fed piece after.midway.bytes fits

  -- after a fault nothing changes
  same : (f : Fault) → old.fault ≡ Some f → new ≡ old
  same f e = stopped (rw e refl)

  pub ranges_fed : IfSome new.header IsHeader
  ranges_fed = go old.fault refl after.midway.holds
    where
      go : (o : Option Fault) → old.fault ≡ o → Holds o old run fed → IfSome new.header IsHeader
      go None e has = header_ranges new (fed ++ piece) has.0 all_fit (feeds fed has.0 has.1)
      go (Some f) e has = subst (λ (r : Reading). IfSome r.header IsHeader) (sym (same f e)) after.midway.ranges

  -- the run that had begun goes on
  begun : (es : List ScheduleEvent) (now : Run) → WasFed old fed es → HasRun old.header es run → Begins new.header run now
      → HasRun new.header es now
  begun es now stands has begins = by_header old.header refl has
    where
      by_run : (h : Header) (run : Run) → IsRunOf h es run → Begins new.header run now → IsRunOf h es now
      by_run h (Runs w) of is = subst (IsRunOf h es) (sym is) of
      by_run h (Stops f) of is = subst (IsRunOf h es) (sym is) of
      by_run h Waits of is = absurd of

      by_header : (o : Option Header) → old.header ≡ o → HasRun o es run → HasRun new.header es now
      by_header None e waits =
          let waiting : Begins new.header Waits now = subst (λ (r : Run). Begins new.header r now) waits begins in
          subst (λ (given : List ScheduleEvent). HasRun new.header given now) (sym (nothing_taken old fed es e stands).0) waiting
      by_header (Some h) e of =
          let has : new.header ≡ Some h = header_stays old new fed (fed ++ piece) piece es es h refl stands (feeds fed es stands) e in
          subst (λ (o : Option Header). HasRun o es now) (sym has) (by_run h run of begins)

  pub fed_midway : (now : Run) → Begins new.header run now → IsMidway new now (fed ++ piece)
  fed_midway now begins = record { bytes = all_fit; ranges = ranges_fed; holds = go old.fault refl after.midway.holds }
    where
      go : (o : Option Fault) → old.fault ≡ o → Holds o old run fed → Holds new.fault new now (fed ++ piece)
      go None e has =
          let stands = feeds fed has.0 has.1 in
          subst (λ (o : Option Fault). Holds o new now (fed ++ piece)) (sym stands.unstopped)
          (has.0, stands, begun has.0 now has.1 has.2 begins)
      go (Some f) e has =
          let on : (more : List ℕ) → schedule_of ((fed ++ piece) ++ more)
          ≡ Err f = λ more. ap schedule_of (append_assoc fed piece more) ∙ has.0 (piece ++ more) in
          let here : Holds old.fault old now (fed ++ piece) = subst (λ (o : Option Fault). Holds o old now (fed ++ piece)) (sym e)
          (on, has.1) in
          subst (λ (r : Reading). Holds r.fault r now (fed ++ piece)) (sym (same f e)) here

-- ---- the next event

-- what a reader answers
abbrev Answer : Type 0
Answer = Result (Option ScheduleEvent) (Option Fault)

module _ (old new : Reading) (run : Run) (fed : List ℕ) (midway : IsMidway old run fed) (answer : Answer)
    (gives : (fed : List ℕ) (es : List ScheduleEvent) → WasFed old fed es → GivesNext fed es new answer)
    (again : (f : Fault) → old.fault ≡ Some f → (new ≡ old) × (answer ≡ Err (Some f))) where
  counts : (h : Header) (es : List ScheduleEvent) (run : Run) → IsRunOf h es run → length es ≤ most_bytes → CanCount run
  unfolding most_bytes
  counts h es (Runs w) of few = omega (arith, of.count, few)
  counts h es (Stops f) of few = tt
  counts h es Waits of few = tt

  -- it is there
  pub gives_event : (e : ScheduleEvent) → answer ≡ Ok (Some e) → Gives new run fed (Some e)
  gives_event e is = go old.fault refl midway.holds
    where
      -- behind the header
      behind : (es : List ScheduleEvent) (h : Header) → WasFed old fed es → WasFed new fed (es ++ e ∷ []) → old.header ≡ Some h
          → IsRunOf h es run → Gives new run fed (Some e)
      behind es h stands now has of =
          let here : new.header ≡ Some h = header_stays old new fed fed [] es (es ++ e ∷ []) h (sym (append-nil fed)) stands now has in
          let range : IsEvent h.processes e = last_in h.processes es e (events_ranges new fed (es ++ e ∷ []) h midway.bytes now here).0 in (
            counts h es run of (events_ranges old fed es h midway.bytes stands has).1,
            λ later on. record {
              bytes = midway.bytes;
              ranges = header_ranges new fed (es ++ e ∷ []) midway.bytes now;
              holds = subst (λ (o : Option Fault). Holds o new later fed) (sym now.unstopped)
                  (es ++ e ∷ [], now, subst (λ (o : Option Header). HasRun o (es ++ e ∷ []) later) (sym here) (on h es of range));
            },
          )

      by_header : (es : List ScheduleEvent) → WasFed old fed es → WasFed new fed (es ++ e ∷ []) → (o : Option Header) → old.header ≡ o
          → HasRun o es run → Gives new run fed (Some e)
      by_header es stands now None none waits = absurd (some_header old new fed es e none stands now)
      by_header es stands now (Some h) has of = behind es h stands now has of

      go : (o : Option Fault) → old.fault ≡ o → Holds o old run fed → Gives new run fed (Some e)
      go None going has = by_header has.0 has.1 (subst (GivesNext fed has.0 new) is (gives fed has.0 has.1)) old.header refl has.2
      go (Some f) stopped has = let wrong : (let a : Answer = Ok (Some e) in a) ≡ Err (Some f) = sym is ∙ (again f stopped).1 in absurd cc

  -- none is whole
  pub gives_none : answer ≡ Ok None → new ≡ old → length new.waiting + 65536 ≤ most_waiting → IsAfter new run fed
  gives_none is same room = record {
    midway = subst (λ (r : Reading). IsMidway r run fed) (sym same) midway;
    none_whole = λ going. go old.fault refl midway.holds;
    room = room;
  }
    where
      go : (o : Option Fault) → old.fault ≡ o → Holds o old run fed → NoneWhole new.header new
      go None going has = let none : GivesNext fed has.0 new (Ok None) = subst (GivesNext fed has.0 new) is
          (gives fed has.0 has.1) in none.1
      go (Some f) stopped has = let wrong : (let a : Answer = Ok None in a) ≡ Err (Some f) = sym is ∙ (again f stopped).1 in absurd cc

  stopped_after : (f : Fault) → new.fault ≡ Some f → new.waiting ≡ [] → new.header ≡ old.header
      → ((more : List ℕ) → schedule_of (fed ++ more) ≡ Err f) → IsAfter new run fed
  unfolding most_waiting
  stopped_after f at empty header on = record {
    midway = record {
      bytes = midway.bytes;
      ranges = subst (λ (o : Option Header). IfSome o IsHeader) (sym header) midway.ranges;
      holds = subst (λ (o : Option Fault). Holds o new run fed) (sym at) (on, empty);
    };
    none_whole = λ going. let wrong : (let o : Option Fault = None in o) ≡ Some f = sym going ∙ at in absurd cc;
    room = rw empty (omega arith);
  }

  -- the input has a fault
  pub gives_fault : (f : Fault) → answer ≡ Err (Some f) → new.header ≡ old.header → IsAfter new run fed
  gives_fault f is header = go old.fault refl midway.holds
    where
      go : (o : Option Fault) → old.fault ≡ o → Holds o old run fed → IsAfter new run fed
      go None going has =
          let fault : GivesNext fed has.0 new (Err (Some f)) = subst (GivesNext fed has.0 new) is (gives fed has.0 has.1) in
          stopped_after f fault.1 fault.2 header fault.0
      go (Some g) stopped has =
          let same = (again g stopped).0 in
          stopped_after g (ap (λ (r : Reading). r.fault) same ∙ stopped) (ap (λ (r : Reading). r.waiting) same ∙ has.1) header has.0

-- ---- what was fed

pub fed_bytes : (r : Replay) (fed : List ℕ) → HasFed r fed → IsBytes fed
fed_bytes r fed has = has.midway.bytes
