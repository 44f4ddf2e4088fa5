-- What a run reports: what happens in each event, in the world of the definitions.
-- Names here (* for this crate alone):
--   in an event: takes_in, gets_frame, loses, next_tells, drain_tells, lie_tells, liar_tells, tells
--   in a run: run_tells, reported_of, stop_of
--   in lines: event_lines, reported_lines, stop_lines, trace_lines
use Rattle.std.specs.Prelude.{ℕ, zero, suc, ◌==◌, nat_lt, if◌then◌else◌, List, [], ◌∷◌, ◌++◌, length, drop, find, None, Some, slice_get, Ok, Err, Option}
use Rattle.std.specs.List.{flat_map, enumerate_from, zip}
use Rattle.message_defs.specs.Statements.{Statement}
use Rattle.message_defs.specs.Reading.{statement_of}
use Rattle.message_defs.specs.Claims.{frame_said}
use Rattle.group_defs.specs.Process.{Setting}
use Rattle.group_defs.specs.Events as group
use Rattle.group_defs.specs.Events.{outcome}
use Rattle.rp_base.specs.Pids.{members}
use Rattle.replay_defs.specs.Signers.{key_total}
use Rattle.replay_defs.specs.Schedules.{Listed, ScheduleEvent, Submit, Raw, Pass, Drain, Lie, Suspect, Join, Renew, Tick, Header, Schedule}
use Rattle.replay_defs.specs.Worlds.{World, setting_of, start_of, is_in, turn_of, player_of, next_delivery, lies_of, WorldFault, after_event, world_of}
use Rattle.trace_defs.specs.Phrases.{Line}
use Rattle.trace_defs.specs.Outcomes.{seen}
use Rattle.trace_defs.specs.Happenings.{Handed, Payload, Frame, Bytes, Suspects, Joins, Renews, Ticks, Happening, Takes, Loses, Lies, Silent, lines_of}
use Rattle.trace_defs.specs.Events.{event_line, cast_lines, fault_line}

-- ---- in an event

-- the process of this number takes an event, where it is a correct one
abbrev pub takes_in : Setting → World → ℕ → Handed → group.Event → List Happening
takes_in s w p handed e = elim
    (player_of w p) [ None ↦ [] | Some c ↦ Takes p handed (length w.frames) (seen (outcome s c.now (turn_of c e))) ∷ [] ]

-- the frame of this number is handed to a process, where there is one
abbrev pub gets_frame : Setting → World → ℕ → ℕ → List Happening
gets_frame s w to frame = elim
    (slice_get w.frames frame) [ None ↦ [] | Some f ↦ takes_in s w to (Frame frame f.sender) (group.Hand f.sender (frame_said f.bytes)) ]

-- the frame of a delivery is lost
abbrev pub loses : World → ℕ × ℕ → List Happening
loses w d = elim (slice_get w.frames d.0) [ None ↦ [] | Some f ↦ Loses d.0 f.sender d.1 ∷ [] ]

-- the oldest delivery is made, or lost
abbrev pub next_tells : Setting → ℕ → World → ℕ × ℕ → List Happening
next_tells s mask w d =
    let others : World = record w { pending = drop 1 w.pending } in
    if is_in mask d.1 then gets_frame s others d.1 d.0 else loses others d

-- this many deliveries, or until none waits
unfoldable pub drain_tells : Setting → ℕ → ℕ → World → List Happening
drain_tells s mask zero w = []
drain_tells s mask (suc more) w = elim
    (slice_get w.pending 0) [ None ↦ [] | Some d ↦ next_tells s mask w d ++ drain_tells s mask more (next_delivery s mask w d) ]

-- a corrupt process lies, or has no signature left for it
abbrev pub lie_tells : World → ℕ → Listed → List ℕ → List Happening
lie_tells w mask l statement =
    if nat_lt (lies_of w l.process) (key_total l.key) then Lies l.process statement (length w.frames) (members mask) ∷ []
    else Silent l.process ∷ []

-- the corrupt process of this number lies, where its statement is one
abbrev pub liar_tells : Header → World → ℕ → ℕ → List ℕ → List Happening
liar_tells h w signer mask statement = elim (find (λ l. l.process == signer) h.processes) [
  | None ↦ []
  | Some l ↦ elim (statement_of statement) [ Ok st ↦ lie_tells w mask l statement | Err fault ↦ [] ]
]

-- what happens in an event
abbrev pub tells : Header → World → ScheduleEvent → List Happening
tells h w (Submit p payload) = takes_in (setting_of h) w p Payload (group.Submit payload)
tells h w (Raw to from bytes) = takes_in (setting_of h) w to (Bytes from) (group.Hand from (frame_said bytes))
tells h w (Pass frame to) = gets_frame (setting_of h) w to frame
tells h w (Drain count mask) = drain_tells (setting_of h) mask count w
tells h w (Lie signer mask statement) = liar_tells h w signer mask statement
tells h w (Suspect p q) = takes_in (setting_of h) w p (Suspects q) (group.Suspect q)
tells h w (Join p q) = takes_in (setting_of h) w p (Joins q) (group.Join q)
tells h w (Renew p) = takes_in (setting_of h) w p Renews group.RenewView
tells h w (Tick p) = takes_in (setting_of h) w p Ticks group.Tick

-- ---- in a run

-- what happens in each of these events, from a world on, up to one that stops the run
unfoldable pub run_tells : Header → World → List ScheduleEvent → List (List Happening)
run_tells h w [] = []
run_tells h w (e ∷ es) = elim (after_event h w e) [ Ok v ↦ tells h w e ∷ run_tells h v es | Err fault ↦ [] ]

-- what happens in each event of a schedule, up to one that stops its run
abbrev pub reported_of : Schedule → List (List Happening)
reported_of sch = run_tells sch.header (start_of sch.header) sch.events

-- why its run stops, where one of its events stops it
abbrev pub stop_of : Schedule → Option WorldFault
stop_of sch = elim (world_of sch) [ Ok w ↦ None | Err fault ↦ Some fault ]

-- ---- in lines

-- the line of an event, and those of what happens in it
abbrev pub event_lines : ℕ → ScheduleEvent → List Happening → List Line
event_lines n e reported = event_line n e ∷ flat_map lines_of reported

-- the lines of events, each with what happens in it
abbrev pub reported_lines : List ScheduleEvent → List (List Happening) → List Line
reported_lines es reported = flat_map (λ e. event_lines e.0 e.1.0 e.1.1) (enumerate_from 0 (zip es reported))

-- where the event of this number stops the run, its line, and why
abbrev pub stop_lines : List ScheduleEvent → ℕ → Option WorldFault → List Line
stop_lines es n None = []
stop_lines es n (Some fault) = elim (slice_get es n) [ None ↦ [] | Some e ↦ event_line n e ∷ fault_line fault ∷ [] ]

-- the trace of a schedule: who takes part, each event with what happens in it, and why the run stops, where an event stops it
abbrev pub trace_lines : Schedule → List Line
trace_lines sch =
    cast_lines sch.header
    ++ (reported_lines sch.events (reported_of sch) ++ stop_lines sch.events (length (reported_of sch)) (stop_of sch))
