-- What a schedule tells, event by event.
use Rattle.std.proofs.Common.{◌≡◌, List, [], ◌∷◌, ◌++◌, Option, Some, None, Result, Ok, Err, refl, sym, ap, ◌∙◌, append-nil, append_assoc}
use Rattle.std.specs.List.{AllByRecursion}
use Rattle.byte_defs.specs.Fields.{◌>>=◌}
use Rattle.replay_defs.specs.Schedules.{Header, Schedule, ScheduleEvent, IsEvent}
use Rattle.replay_defs.specs.Worlds as plain
use Rattle.replay_defs.specs.Worlds.{WorldFault, run_events, world_of, after_event, start_of}
use Rattle.trace_defs.specs.Happenings.{Happening}
use Rattle.reported_defs.specs.Reported.{tells, run_tells, reported_of, stop_of}
use Rattle.replay_world.specs.declared.world.World.{World}
use Rattle.replay_world.specs.Worlds.{Shows, Happens}

-- a world on the way, behind events in which this happened, from which these events lead to the schedule's end
pub record Midway (sch : Schedule) (w : World) (reported : List (List Happening)) (left : List ScheduleEvent) : Type 0 where
  pub world : plain.World
  pub leads : run_events sch.header world left ≡ world_of sch
  pub tells : reported ++ run_tells sch.header world left ≡ reported_of sch
  pub shows : Shows sch.header w world
  pub events : AllByRecursion (IsEvent sch.header.processes) left

-- before the first event
pub begun : (sch : Schedule) (w : World) → Shows sch.header w (start_of sch.header)
    → AllByRecursion (IsEvent sch.header.processes) sch.events → Midway sch w [] sch.events
begun sch w shows events = record { world = start_of sch.header; leads = refl; tells = refl; shows = shows; events = events }

-- ---- how the events behind the first one go on

-- from what comes of the first event on
abbrev ends_from : Header → List ScheduleEvent → Result plain.World WorldFault → Result plain.World WorldFault
ends_from h es r = r >>= λ x. run_events h x es

abbrev tells_from : Header → List Happening → List ScheduleEvent → Result plain.World WorldFault → List (List Happening)
tells_from h first es r = elim r [ Ok v ↦ first ∷ run_tells h v es | Err fault ↦ [] ]

first_event : (h : Header) (v : plain.World) (e : ScheduleEvent) (es : List ScheduleEvent)
    → run_events h v (e ∷ es) ≡ ends_from h es (after_event h v e)
unfolding run_events
first_event h v e es = refl

first_tells : (h : Header) (v : plain.World) (e : ScheduleEvent) (es : List ScheduleEvent)
    → run_tells h v (e ∷ es) ≡ tells_from h (tells h v e) es (after_event h v e)
unfolding run_tells
first_tells h v e es = refl

-- one event more
pub one_more : (sch : Schedule) (old new : World) (reported : List (List Happening)) (one : List Happening) (e : ScheduleEvent)
    (es : List ScheduleEvent)
    → Midway sch old reported (e ∷ es) → Happens old new e
    → ((v : plain.World) → Shows sch.header old v → IsEvent sch.header.processes e → one ≡ tells sch.header v e)
    → Midway sch new (reported ++ one ∷ []) es
one_more sch old new reported one e es m happens is =
    let step = happens sch.header m.world m.shows m.events.0 in
    let here : one ≡ tells sch.header m.world e = is m.world m.shows m.events.0 in
    let rest : run_tells sch.header m.world (e ∷ es) ≡ one ∷ run_tells sch.header step.0 es =
    first_tells sch.header m.world e es
    ∙ ap (tells_from sch.header (tells sch.header m.world e) es) step.1
    ∙ ap (λ (x : List Happening). x ∷ run_tells sch.header step.0 es) (sym here) in
    record {
      world = step.0;
      leads = sym (ap (ends_from sch.header es) step.1) ∙ (sym (first_event sch.header m.world e es) ∙ m.leads);
      tells = append_assoc reported (one ∷ []) (run_tells sch.header step.0 es) ∙ ap (λ (x : List (List Happening)). reported ++ x)
          (sym rest) ∙ m.tells;
      shows = step.2;
      events = m.events.1;
    }

-- ---- where a run ends

-- this was told in all, and the run ends so
pub record Ended (sch : Schedule) (reported : List (List Happening)) (stop : Option WorldFault) : Type 0 where
  pub all : reported ≡ reported_of sch
  pub ends : stop ≡ stop_of sch

-- why a world stops, where it does
abbrev stop_from : Result plain.World WorldFault → Option WorldFault
stop_from r = elim r [ Ok w ↦ None | Err fault ↦ Some fault ]

no_event : (h : Header) (v : plain.World) → run_events h v [] ≡ Ok v
unfolding run_events
no_event h v = refl

none_tells : (h : Header) (v : plain.World) → run_tells h v [] ≡ []
unfolding run_tells
none_tells h v = refl

-- no event is left
pub at_end : (sch : Schedule) (w : World) (reported : List (List Happening)) → Midway sch w reported [] → Ended sch reported None
at_end sch w reported m = record {
  all = sym (append-nil reported) ∙ ap (λ (x : List (List Happening)). reported ++ x) (sym (none_tells sch.header m.world)) ∙ m.tells;
  ends = ap stop_from (sym (no_event sch.header m.world) ∙ m.leads);
}

-- the next event stops the run
pub too_early : (sch : Schedule) (w : World) (reported : List (List Happening)) (e : ScheduleEvent) (es : List ScheduleEvent)
    (fault : WorldFault)
    → Midway sch w reported (e ∷ es)
    → ((v : plain.World) → Shows sch.header w v → IsEvent sch.header.processes e → after_event sch.header v e ≡ Err fault)
    → Ended sch reported (Some fault)
too_early sch w reported e es fault m stops =
    let is : after_event sch.header m.world e ≡ Err fault = stops m.world m.shows m.events.0 in
    let silent : run_tells sch.header m.world (e ∷ es) ≡ [] =
    first_tells sch.header m.world e es ∙ ap (tells_from sch.header (tells sch.header m.world e) es) is in
    let ends : world_of sch ≡ Err fault = sym m.leads ∙ (first_event sch.header m.world e es ∙ ap (ends_from sch.header es) is) in
    record {
      all = sym (append-nil reported) ∙ ap (λ (x : List (List Happening)). reported ++ x) (sym silent) ∙ m.tells;
      ends = ap stop_from (sym ends);
    }
