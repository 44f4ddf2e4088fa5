-- One event more of a run.
use Rattle.std.proofs.Common.{◌≡◌, ◌+◌, List, [], ◌∷◌, ◌++◌, Some, Result, Ok, Err, refl, ap, ◌∙◌, arith, length-append}
use Rattle.std.specs.Option.{option_map}
use Rattle.byte_defs.specs.Fields.{◌>>=◌}
use Rattle.replay_defs.specs.Schedules.{Header, ScheduleEvent}
use Rattle.replay_defs.specs.Worlds as plain
use Rattle.replay_defs.specs.Worlds.{run_events, after_event, start_of}
use Rattle.replay_defs.specs.Reports as reports
use Rattle.replay_report.specs.Runs.{World, WorldFault}
use Rattle.replay_report.specs.Stops.{NoSuchFrame, TooMuchSent, NoMemory}
use Rattle.replay_report.specs.Runs.{Shows, Happens, Stops, IsFault, count_of}
use Rattle.replay_run.specs.Faults.{fault, fault_of_run}
use Rattle.replay_run.specs.declared.fault.ReplayFault.{ReplayFault}
use Rattle.replay_run.specs.declared.run.Run.{Run}
use Rattle.replay_run.specs.declared.run.Run.TheVariants as runs
use Rattle.replay_run.specs.Running.{IsWorldAfter, IsStoppedBy, RunsOn}

-- ---- in the definitions

last_of : (h : Header) (v : plain.World) (e : ScheduleEvent) → run_events h v (e ∷ []) ≡ after_event h v e
unfolding run_events
last_of h v e = go (after_event h v e)
  where
    go : (r : Result plain.World plain.WorldFault) → (r >>= λ x. Ok x) ≡ r
    go (Ok x) = refl
    go (Err f) = refl

-- behind some events
pub run_more : (h : Header) (v : plain.World) (es : List ScheduleEvent) (e : ScheduleEvent)
    → run_events h v (es ++ e ∷ []) ≡ (run_events h v es >>= λ x. after_event h x e)
unfolding run_events
run_more h v [] e = last_of h v e
run_more h v (d ∷ es) e = go (after_event h v d) (λ x. run_more h x es e)
  where
    go : (r : Result plain.World plain.WorldFault)
        → ((x : plain.World) → run_events h x (es ++ e ∷ []) ≡ (run_events h x es >>= λ y. after_event h y e))
        → (r >>= λ x. run_events h x (es ++ e ∷ [])) ≡ ((r >>= λ x. run_events h x es) >>= λ x. after_event h x e)
    go (Ok x) more = more x
    go (Err f) more = refl

then_runs : (h : Header) (es : List ScheduleEvent) (e : ScheduleEvent) (r : Result plain.World plain.WorldFault)
    → run_events h (start_of h) es ≡ r → run_events h (start_of h) (es ++ e ∷ []) ≡ (r >>= λ x. after_event h x e)
then_runs h es e r is = run_more h (start_of h) es e ∙ ap (λ (o : Result plain.World plain.WorldFault). o >>= λ x. after_event h x e) is

-- ---- of the code

-- before the first event
pub first_world : (h : Header) (w : World) → Shows h w (start_of h) → count_of w ≡ 0 → IsWorldAfter h [] w
unfolding run_events
first_world h w shows count = record { world = start_of h; leads = refl; shows = shows; count = count }

-- it happened
pub happened : (old new : World) (e : ScheduleEvent) → Happens old new e → count_of new ≡ count_of old + 1
    → RunsOn e (runs.Runs old) (runs.Runs new)
happened old new e happens count = λ h es of is.
    let next = happens h of.world of.shows is in
    record {
      world = next.0;
      leads = then_runs h es e _ of.leads ∙ next.1;
      shows = next.2;
      count = omega (arith, count, of.count, length-append es (e ∷ []));
    }

-- it stopped the run
pub stopped_at : (old : World) (e : ScheduleEvent) (f : WorldFault) (now : Run) → Stops old e f → IsStoppedBy f now
    → RunsOn e (runs.Runs old) now
stopped_at old e f (runs.Runs w) stops by = absurd by
stopped_at old e f runs.Waits stops by = absurd by
stopped_at old e f (runs.Stops g) stops by = λ h es of is.
    let why = reason f (after_event h of.world e) (stops h of.world of.shows is) by in
    (why.0, then_runs h es e _ of.leads ∙ why.1, why.2)
  where
    reason : (f : WorldFault) (r : Result plain.World plain.WorldFault) → IsFault f r
        → option_map reports.Stops (fault_of_run f) ≡ Some (fault g)
        → (why : plain.WorldFault) × (r ≡ Err why) × (fault g ≡ reports.Stops why)
    reason NoMemory r is by = absurd cc
    reason (NoSuchFrame event frame sent) r is by = (plain.NoSuchFrame event frame sent, is, cc)
    reason (TooMuchSent event bytes) r is by = (plain.TooMuchSent event bytes, is, cc)

-- it had stopped before
pub stays : (f : ReplayFault) (e : ScheduleEvent) → RunsOn e (runs.Stops f) (runs.Stops f)
stays f e = λ h es of is. (of.0, then_runs h es e _ of.1, of.2)
