-- A schedule, event by event.
use Rattle.std.proofs.Common.{◌≡◌, ℕ, suc, ◌+◌, ◌<◌, ◌≤◌, List, [], ◌∷◌, length, map, drop, get_or, Ok, Err, refl, sym, ap, ◌∙◌, subst, arith, add-one, drop-cons}
use Rattle.std.specs.List.{AllByRecursion}
use Rattle.std.proofs.lemmas.List.{nil_from_length, length-drop}
use Rattle.byte_defs.specs.Fields.{◌>>=◌}
use Rattle.replay_defs.specs.Schedules.{Schedule, ScheduleEvent, IsEvent}
use Rattle.replay_defs.specs.Worlds as plain
use Rattle.replay_defs.specs.Worlds.{run_events, world_of, after_event, start_of}
use Rattle.schedule_file.specs.declared.schedule.ScheduleEvent.{ScheduleEvent as Happening}
use Rattle.schedule_file.specs.Views.{event}
use Rattle.replay_world.specs.declared.world.World.{World}
use Rattle.replay_world.specs.declared.fault.WorldFault.{WorldFault}
use Rattle.replay_world.specs.declared.fault.WorldFault.TheVariants.{NoSuchFrame, TooMuchSent, NoMemory}
use Rattle.replay_world.specs.Worlds.{Shows, Happens, Stops, IsWorldOf, IsEarlyEnd}

-- a world on the way, from which these events lead to the schedule's end
pub record Midway (sch : Schedule) (w : World) (left : List ScheduleEvent) : Type 0 where
  pub world : plain.World
  pub leads : run_events sch.header world left ≡ world_of sch
  pub shows : Shows sch.header w world
  pub events : AllByRecursion (IsEvent sch.header.processes) left

-- before the first event
pub begun : (sch : Schedule) (w : World) → Shows sch.header w (start_of sch.header)
    → AllByRecursion (IsEvent sch.header.processes) sch.events → Midway sch w sch.events
begun sch w shows events = record { world = start_of sch.header; leads = refl; shows = shows; events = events }

first_event : (sch : Schedule) (v : plain.World) (e : ScheduleEvent) (es : List ScheduleEvent)
    → run_events sch.header v (e ∷ es) ≡ (after_event sch.header v e >>= λ x. run_events sch.header x es)
unfolding run_events
first_event sch v e es = refl

last_event : (sch : Schedule) (v : plain.World) → run_events sch.header v [] ≡ Ok v
unfolding run_events
last_event sch v = refl

-- one event more
pub one_more : (sch : Schedule) (old new : World) (e : ScheduleEvent) (es : List ScheduleEvent) → Midway sch old (e ∷ es)
    → Happens old new e → Midway sch new es
one_more sch old new e es m happens =
    let step = happens sch.header m.world m.shows m.events.0 in
    record {
      world = step.0;
      leads = sym (ap (λ r. r >>= λ x. run_events sch.header x es) step.1) ∙ (sym (first_event sch m.world e es) ∙ m.leads);
      shows = step.2;
      events = m.events.1;
    }

ends_by : (sch : Schedule) (v : plain.World) (e : ScheduleEvent) (es : List ScheduleEvent) (fault : plain.WorldFault)
    → run_events sch.header v (e ∷ es) ≡ world_of sch → after_event sch.header v e ≡ Err fault
    → world_of sch ≡ Err fault
ends_by sch v e es fault leads is = sym leads ∙ (first_event sch v e es ∙ ap (λ r. r >>= λ x. run_events sch.header x es) is)

-- an event that stops the world ends the schedule so
pub too_early : (sch : Schedule) (old : World) (e : ScheduleEvent) (es : List ScheduleEvent) (fault : WorldFault) → Midway sch old (e ∷ es)
    → Stops old e fault → IsEarlyEnd sch fault
too_early sch old e es NoMemory m stops = tt
too_early sch old e es (NoSuchFrame event frame sent) m stops = ends_by sch m.world e es (plain.NoSuchFrame event frame sent) m.leads
    (stops sch.header m.world m.shows m.events.0)
too_early sch old e es (TooMuchSent event bytes) m stops = ends_by sch m.world e es (plain.TooMuchSent event bytes) m.leads
    (stops sch.header m.world m.shows m.events.0)

-- no event is left
pub at_end : (sch : Schedule) (w : World) → Midway sch w [] → IsWorldOf sch w
at_end sch w m = record { world = m.world; is = sym m.leads ∙ last_event sch m.world; shows = m.shows }

-- ---- over the code's list of events

-- the event at this index is the first of what is left; a loop goes over the same list, lent
pub next_event : (ys xs : List Happening) (i : ℕ) (x : Happening) → ys ≡ xs → i < length ys → x ≡ get_or ys i x
    → map event (drop i xs) ≡ event x ∷ map event (drop (i + 1) xs)
next_event ys xs i x same lt at =
    let first : drop i ys ≡ x ∷ drop (i + 1) ys = rw (add-one, drop-cons ys i x) (ap (λ (y : Happening). y ∷ drop (suc i) ys) (sym at)) in
    subst (λ (zs : List Happening). map event (drop i zs) ≡ event x ∷ map event (drop (i + 1) zs)) same (ap (map event) first)

-- nothing is left behind the last event
pub nothing_left : (ys xs : List Happening) (i : ℕ) → ys ≡ xs → length ys ≤ i → map event (drop i xs) ≡ []
nothing_left ys xs i same le = ap (λ (zs : List Happening). map event (drop i zs)) (sym same) ∙ ap (map event)
    (nil_from_length (drop i ys) (omega (arith, length-drop i ys)))
