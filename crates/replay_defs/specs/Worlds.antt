-- The world of a schedule: the family of its correct processes, the frames that were sent, and the deliveries that wait.
-- Names here (* for this crate alone):
--   who takes part: setting_of, Player, Sent, Refused, World, begins, start_of, correct_of, family_of
--   sending: is_in, players_that*, send, send_all
--   one step of a process: turn_of, with_turn, takes, refused_if, turns_out, steps, player_of, hands, hands_frame
--   deliveries: delivers, next_delivery, drains
--   lies: lies_of, lie_claim, sends_lie, lies
--   events: WorldFault, happens, most_sent, sum_above, counts, after_event, run_events, world_of
use Rattle.std.specs.Prelude.{ℕ, zero, suc, ◌+◌, ◌-◌, Bool, ◌==◌, nat_lt, if◌then◌else◌, List, [], ◌∷◌, ◌++◌, length, map, drop, filter, find, fold, count_by, Option, None, Some, slice_get, Result, Ok, Err}
use Rattle.std.specs.List.{filter_map}
use Rattle.std.specs.Int.{bit_at}
use Rattle.byte_defs.specs.Fields.{◌>>=◌}
use Rattle.byte_defs.specs.Members.{has}
use Rattle.message_defs.specs.Statements.{Statement, Claim}
use Rattle.message_defs.specs.Spelling.{body}
use Rattle.message_defs.specs.Reading.{statement_of}
use Rattle.message_defs.specs.Claims.{frame_said}
use Rattle.group_defs.specs.Process.{Setting, Process, all_kinds, start}
use Rattle.group_defs.specs.Sending.{Sending, Bundle, frames_of}
use Rattle.group_defs.specs.Events as group
use Rattle.group_defs.specs.Events.{Turn, EventFault, Outcome, after, outcome}
use Rattle.group_defs.specs.Family.{Correct, Family}
use Rattle.replay_defs.specs.Signers.{key_total, key_public, key_signature, scheme_valid}
use Rattle.replay_defs.specs.Schedules.{Listed, ScheduleEvent, Submit, Raw, Pass, Drain, Lie, Suspect, Join, Renew, Tick, Header, Schedule}

-- ---- who takes part

-- what the processes of a schedule share
abbrev pub setting_of : Header → Setting
setting_of h = record {
  group = h.group;
  roster = map (λ l. (l.process, key_public l.key)) h.processes;
  genesis = record { number = 0; members = h.genesis };
  valid = scheme_valid h.scheme;
  signs = all_kinds;
}

-- a correct process as it is now, and the turns that it has taken
pub record Player : Type 0 where
  pub listed : Listed
  pub now : Process
  pub turns : List Turn

-- a frame that was sent
pub record Sent : Type 0 where
  pub sender : ℕ
  pub bytes : List ℕ

-- a step that was refused: in which event, by which process, and why
pub record Refused : Type 0 where
  pub event : ℕ
  pub process : ℕ
  pub fault : EventFault

-- the correct processes, and what happened between them
pub record World : Type 0 where
  -- by rising numbers
  pub players : List Player
  -- by the frames' numbers, from 0 on
  pub frames : List Sent
  -- the number of a frame and an addressee, for each delivery that waits, the oldest first
  pub pending : List (ℕ × ℕ)
  pub refused : List Refused
  -- the processes with a due statement that met a spent key, as often as one did
  pub spent : List ℕ
  -- how many events there were, which is the number of the next one
  pub count : ℕ

-- a correct process takes part, as it starts; a corrupt one does not
abbrev pub begins : Header → Listed → Option Player
begins h l = if l.corrupt then None else Some (record { listed = l; now = start (setting_of h) l.process h.batch_limit; turns = [] })

-- the world before the first event
abbrev pub start_of : Header → World
start_of h = record { players = filter_map (begins h) h.processes; frames = []; pending = []; refused = []; spent = []; count = 0 }

-- the player, as a process of the family
abbrev pub correct_of : Header → Player → Correct
correct_of h c = record { me = c.listed.process; batch_limit = h.batch_limit; turns = c.turns }

-- the family of the correct processes
abbrev pub family_of : Header → World → Family
family_of h w = record { setting = setting_of h; correct = map (correct_of h) w.players }

-- ---- sending

-- the process is one of the mask
abbrev pub is_in : ℕ → ℕ → Bool
is_in mask p = bit_at mask p == 1

-- the correct processes that pass the test, rising
abbrev pub players_that : (ℕ → Bool) → World → List ℕ
players_that test w = filter test (map (λ c. c.listed.process) w.players)

-- A frame gets the next number, once for all its addressees. For each that is a correct process a delivery waits after the others.
abbrev pub send : ℕ → (ℕ → Bool) → World → List ℕ → World
send sender to w bytes = record w {
  frames = w.frames ++ record { sender = sender; bytes = bytes } ∷ [];
  pending = w.pending ++ map (λ p. (length w.frames, p)) (players_that to w);
}

-- the frames of one sending, in order
abbrev pub send_all : ℕ → World → Sending → World
send_all sender w out = fold (send sender (has out.to)) w (frames_of out.parcel)

-- ---- one step of a process

-- an event at a process: its key makes the signatures that are left
abbrev pub turn_of : Player → group.Event → Turn
turn_of c e = record { event = e; allowance = key_total c.listed.key - length c.now.signed; signer = key_signature c.listed.key }

-- the player, after one turn more
abbrev pub with_turn : Setting → Turn → Player → Player
with_turn s t c = record { listed = c.listed; now = after s c.now t; turns = c.turns ++ t ∷ [] }

-- the player of this number takes one turn more
abbrev pub takes : Setting → ℕ → Turn → Player → Player
takes s p t c = if c.listed.process == p then with_turn s t c else c

-- what was refused, where it was
abbrev pub refused_if : World → ℕ → Option EventFault → List Refused
refused_if w p None = []
refused_if w p (Some fault) = record { event = w.count; process = p; fault = fault } ∷ []

-- the player takes a turn with this outcome, and what it sends goes out
abbrev pub turns_out : Setting → World → ℕ → Turn → Outcome → World
turns_out s w p t o = fold (send_all p) (record w {
  players = map (takes s p t) w.players;
  refused = w.refused ++ refused_if w p o.verdict;
  spent = if o.spent then w.spent ++ p ∷ [] else w.spent;
}) o.sends

-- a player takes an event
abbrev pub steps : Setting → World → group.Event → Player → World
steps s w e c = turns_out s w c.listed.process (turn_of c e) (outcome s c.now (turn_of c e))

-- the correct process of this number
abbrev pub player_of : World → ℕ → Option Player
player_of w p = find (λ c. c.listed.process == p) w.players

-- an event is handed to the process of this number
abbrev pub hands : Setting → World → ℕ → group.Event → World
hands s w p e = elim (player_of w p) [ None ↦ w | Some c ↦ steps s w e c ]

-- bytes are handed over as a frame
abbrev pub hands_frame : Setting → World → ℕ → Sent → World
hands_frame s w to f = hands s w to (group.Hand f.sender (frame_said f.bytes))

-- ---- deliveries

-- the frame of this number is handed over, where there is one
abbrev pub delivers : Setting → World → ℕ → ℕ → World
delivers s w to frame = elim (slice_get w.frames frame) [ None ↦ w | Some f ↦ hands_frame s w to f ]

-- the oldest delivery is made, or lost
abbrev pub next_delivery : Setting → ℕ → World → ℕ × ℕ → World
next_delivery s mask w d =
    let others : World = record w { pending = drop 1 w.pending } in
    if is_in mask d.1 then delivers s others d.1 d.0 else others

-- this many deliveries, or until none waits
unfoldable pub drains : Setting → ℕ → ℕ → World → World
drains s mask zero w = w
drains s mask (suc more) w = elim (slice_get w.pending 0) [ None ↦ w | Some d ↦ drains s mask more (next_delivery s mask w d) ]

-- ---- lies

-- how many signatures a corrupt process has made: each of its frames is a Lie with one
abbrev pub lies_of : World → ℕ → ℕ
lies_of w p = count_by (λ f. f.sender == p) w.frames

-- the process's claim on the statement, by its key
abbrev pub lie_claim : Header → World → Listed → Statement → Claim
lie_claim h w l st = record {
  signer = l.process;
  statement = st;
  signature = key_signature l.key (lies_of w l.process) (body h.group l.process st);
}

-- the claim goes out in a Bundle of its own; a spent key sends nothing
abbrev pub sends_lie : Header → World → ℕ → Listed → Statement → World
sends_lie h w mask l st =
    if nat_lt (lies_of w l.process) (key_total l.key)
    then fold (send l.process (is_in mask)) w (frames_of (Bundle (lie_claim h w l st ∷ [])))
    else w

-- the corrupt process lies, where its statement is one
abbrev pub lies : Header → World → ℕ → ℕ → List ℕ → World
lies h w signer mask statement = elim (find (λ l. l.process == signer) h.processes) [
  | None ↦ w
  | Some l ↦ elim (statement_of statement) [ Ok st ↦ sends_lie h w mask l st | Err fault ↦ w ]
]

-- ---- events

-- why a world stops
pub data WorldFault : Type 0 where
  -- a Pass names a frame that is not sent yet; `sent` are
  NoSuchFrame : (event frame sent : ℕ) → WorldFault
  -- the bytes of all frames pass 1,073,741,824; `bytes` counts those up to the first frame above
  TooMuchSent : (event bytes : ℕ) → WorldFault

-- what an event makes of the world
abbrev pub happens : Header → World → ScheduleEvent → Result World WorldFault
happens h w (Submit p payload) = Ok (hands (setting_of h) w p (group.Submit payload))
happens h w (Raw to from bytes) = Ok (hands_frame (setting_of h) w to (record { sender = from; bytes = bytes }))
happens h w (Pass frame to) = elim (slice_get w.frames frame) [
  | None ↦ Err (NoSuchFrame w.count frame (length w.frames))
  | Some f ↦ Ok (hands_frame (setting_of h) w to f)
]
happens h w (Drain count mask) = Ok (drains (setting_of h) mask count w)
happens h w (Lie signer mask statement) = Ok (lies h w signer mask statement)
happens h w (Suspect p q) = Ok (hands (setting_of h) w p (group.Suspect q))
happens h w (Join p q) = Ok (hands (setting_of h) w p (group.Join q))
happens h w (Renew p) = Ok (hands (setting_of h) w p group.RenewView)
happens h w (Tick p) = Ok (hands (setting_of h) w p group.Tick)

-- how many bytes may be sent in all
unfoldable pub most_sent : ℕ
most_sent = 1073741824

-- The sum of the frames' bytes, with `before` before them, up to the first frame with which it passes the limit; none where it doesn't.
abbrev pub sum_above : ℕ → List Sent → Option ℕ
sum_above before [] = None
sum_above before (f ∷ fs) =
    let with_it : ℕ = before + length f.bytes in
    if nat_lt most_sent with_it then Some with_it else sum_above with_it fs

-- the world is one event older, unless too much was sent
abbrev pub counts : World → Result World WorldFault
counts w = elim (sum_above 0 w.frames) [ None ↦ Ok (record w { count = w.count + 1 }) | Some bytes ↦ Err (TooMuchSent w.count bytes) ]

-- the world after one event
abbrev pub after_event : Header → World → ScheduleEvent → Result World WorldFault
after_event h w e = happens h w e >>= counts

-- the world after these events, or why it stops
unfoldable pub run_events : Header → World → List ScheduleEvent → Result World WorldFault
run_events h w [] = Ok w
run_events h w (e ∷ es) = after_event h w e >>= λ v. run_events h v es

-- the world at the end
abbrev pub world_of : Schedule → Result World WorldFault
world_of sch = run_events sch.header (start_of sch.header) sch.events
