-- An event is handed to a player.
use Rattle.std.proofs.Common.{◌≡◌, ℕ, true, ◌&&◌, List, [], ◌∷◌, ◌++◌, ◌==◌, ◌≤◌, nat_lt, length, get_or, map, Option, Some, None, Result, Ok, Err, refl, sym, ap, subst, ◌∙◌, arith, append_assoc}
use Rattle.std.proofs.lemmas.List.{length-map}
use Rattle.std.specs.Prelude.{OnOk, find, option_map, slice_get, slice_set}
use Rattle.std.proofs.lemmas.Bool.{ltb-true}
use Rattle.std.proofs.lemmas.Option.{slice_get-get_or}
use Rattle.replay_world.proofs.Happenings.{get_map, get_past}
use Rattle.std.specs.List.{list_all, position_from}
use Rattle.byte_defs.specs.Members.{has}
use Rattle.message_defs.specs.Claims.{frame_said}
use Rattle.group_defs.specs.Events as group
use Rattle.group_defs.specs.Events.{Turn, outcome}
use Rattle.group_defs.specs.Family.{claims_in}
use Rattle.replay_defs.specs.Schedules.{Header}
use Rattle.replay_defs.specs.Worlds as plain
use Rattle.replay_defs.specs.Worlds.{setting_of, turn_of}
use Rattle.member_events.specs.declared.events.Event.{Event}
use Rattle.member_events.specs.declared.events.Outcome.{Outcome}
use Rattle.happenings.specs.Events.{event, IsOutcome}
use Rattle.replay_cast.specs.declared.player.Player.{Player}
use Rattle.replay_world.specs.declared.traffic.Sent.{Sent}
use Rattle.replay_world.specs.declared.traffic.Traffic.{Traffic}
use Rattle.replay_world.specs.declared.world.World.{World}
use Rattle.replay_world.specs.declared.fault.WorldFault.{WorldFault}
use Rattle.std.specs.VecDeque.{deque_items}
use Rattle.replay_defs.specs.Worlds.{most_sent}
use Rattle.replay_world.specs.Traffic.{Carries, sent, delivery, numbers, IsTooMuch}
use Rattle.replay_world.specs.Handing.{handed_frames, bytes_in, claims_of}
use Rattle.replay_world.specs.Stepping.{StepsAt}
use Rattle.replay_world.specs.Worlds.{Shows, Becomes, handed_bytes}
use Rattle.replay_world.specs.Steps.{noted, Notes, NotesTooMuch}
use Rattle.trace_defs.specs.Outcomes.{seen}
use Rattle.trace_defs.specs.Happenings as defs
use Rattle.reported_defs.specs.Reported.{takes_in}
use Rattle.happenings.specs.declared.reported.Handed.{Handed}
use Rattle.happenings.specs.declared.reported.Reported.{Reported}
use Rattle.happenings.specs.Reported.{handed, WasReported}
use Rattle.replay_world.specs.Telling.{ReportsStep}
use Rattle.replay_world.proofs.Saying.{takes_placed}
use Rattle.replay_world.proofs.Seats.{FindsAlike, PlacedAt, finds_alike}
use Rattle.replay_world.proofs.HandedOver.{passes, passes_parts, event_passes, mark_adds, and_swap}
use Rattle.replay_world.proofs.Showing.{Turned, KeepsTurn, turned_at, turned_shows, map_kept, players_rise, hands_placed, hands_absent, among_at}

-- the place at which the code finds a player
abbrev pub place_in : ℕ → List Player → Option ℕ
place_in at ps = position_from (λ q. q.process == at) 0 ps

pub placed : (at : ℕ) (r : Option ℕ) (ps qs : List Player) (i : ℕ) → r ≡ Some i → r ≡ place_in at ps → ps ≡ qs → place_in at qs ≡ Some i
placed at r ps qs i is found same = sym (ap (place_in at) same) ∙ (sym found ∙ is)

-- nobody has this number
pub no_player : (h : Header) (old : World) (v : plain.World) (at : ℕ) (r : Option ℕ) (ps : List Player) → Shows h old v → r ≡ None
    → r ≡ place_in at ps
    → ps ≡ old.players.items → find (λ x. x.listed.process == at) v.players ≡ None
no_player h old v at r ps shows none is same =
    let P : Option ℕ → Type 0 = λ x. FindsAlike at v.players 0 x in
    subst P (sym (ap (place_in at) same) ∙ (sym is ∙ none)) (finds_alike (setting_of h) at 0 old.players.items v.players shows.players)

pub nobody : (old : World) (at : ℕ) (e : group.Event) (r : Option ℕ) (ps : List Player) → r ≡ None → r ≡ place_in at ps
    → ps ≡ old.players.items
    → Becomes (λ h v. plain.hands (setting_of h) v at e) old old
nobody old at e r ps none is same = λ h v shows.
    let P : Option ℕ → Type 0 = λ x. FindsAlike at v.players 0 x in
    let found : FindsAlike at v.players 0 None =
    subst P (sym (ap (place_in at) same) ∙ (sym is ∙ none)) (finds_alike (setting_of h) at 0 old.players.items v.players shows.players) in
    let Q : plain.World → Type 0 = λ w. Shows h old w in
    subst Q (sym (hands_absent h v at e found)) shows

-- a world in which the player has taken the event, before what came of it is noted
pub record Given (h : Header) (stepped : World) (v : plain.World) (at : ℕ) (e : group.Event) (r : Outcome) : Type 0 where
  pub world : plain.World
  pub out : group.Outcome
  pub shows : Shows h stepped world
  pub among : has (numbers world) at ≡ true
  pub is : IsOutcome out r
  pub hands : plain.hands (setting_of h) v at e ≡ noted at out world
  pub reported : (what : defs.Handed) → takes_in (setting_of h) v at what e ≡ defs.Takes at what (length v.frames) (seen out) ∷ []

pub given : (h : Header) (old stepped : World) (v : plain.World) (at i : ℕ) (ev : Event) (r : Outcome) → Shows h old v
    → place_in at old.players.items ≡ Some i
    → StepsAt old.scheme old.players.items stepped.players.items i ev r → Turned old stepped
    → (Carries old.traffic v → Carries stepped.traffic v)
    → ((t : Turn) → t.event ≡ event ev → KeepsTurn old stepped t)
    → Given h stepped v at (event ev) r
given h old stepped v at i ev r shows is steps same carries keeps =
    let P : Option ℕ → Type 0 = λ x. FindsAlike at v.players 0 x in
    let found : PlacedAt at v.players 0 i = subst P is (finds_alike (setting_of h) at 0 old.players.items v.players shows.players) in
    let place : found.place ≡ i = omega (arith, found.counted) in
    let get : slice_get v.players i ≡ Some found.at = ap (slice_get v.players) (sym place) ∙ found.get in
    let t : Turn = turn_of found.at (event ev) in
    let step = steps (setting_of h) v.players found.at shows.scheme shows.players get in
    record {
      world = turned_at h v i t found.at;
      out = outcome (setting_of h) found.at.now t;
      shows = turned_shows h old stepped v i found.at t shows get same step.players (carries shows.traffic) (keeps t refl);
      among = ap (λ ps. has ps at) (map_kept (λ (c : plain.Player). c.listed.process) v.players i found.at
          (plain.with_turn (setting_of h) t found.at) get refl)
          ∙ among_at v.players i at found.at get found.is;
      is = step.outcome;
      hands = hands_placed h v at (event ev) found.at i (players_rise h old v shows) get found.is found.found;
      reported = λ what. takes_placed (setting_of h) v at what (event ev) found.at found.found;
    }

-- what came of it is told
pub given_tells : (h : Header) (stepped : World) (v : plain.World) (at : ℕ) (e : group.Event) (r : Outcome) (what : Handed) (first : ℕ)
    (old new : Reported)
    → Given h stepped v at e r → length v.frames ≡ first → ReportsStep old at what first r new
    → WasReported old (takes_in (setting_of h) v at (handed what) e) new
given_tells h stepped v at e r what first old new g counted step =
    let P : List defs.Happening → Type 0 = λ xs. WasReported old xs new in
    subst P (sym (g.reported (handed what) ∙ ap (λ (n : ℕ). defs.Takes at (handed what) n (seen g.out) ∷ []) counted)) (step g.out g.is)

-- what came of it is noted
pub given_becomes : (h : Header) (stepped new : World) (v : plain.World) (at : ℕ) (e : group.Event) (r : Outcome) → Given h stepped v at e r
    → Notes stepped new at r
    → Shows h new (plain.hands (setting_of h) v at e)
given_becomes h stepped new v at e r g notes =
    let Q : plain.World → Type 0 = λ w. Shows h new w in
    subst Q (sym g.hands) (notes h g.world g.out g.shows g.among g.is)

-- or is too much
pub given_exceeds : (h : Header) (stepped : World) (v : plain.World) (at : ℕ) (e : group.Event) (r : Outcome) (fault : WorldFault)
    → Given h stepped v at e r → NotesTooMuch stepped at r fault
    → IsTooMuch fault (plain.hands (setting_of h) v at e)
given_exceeds h stepped v at e r fault g too_much =
    let Q : plain.World → Type 0 = λ w. IsTooMuch fault w in
    subst Q (sym g.hands) (too_much h g.world g.out g.shows g.among g.is)

-- ---- what is kept

-- bytes that no process sent
pub raws_keep : (old new : World) (ev : Event) → new.traffic.frames.items ≡ old.traffic.frames.items
    → new.raws.items ≡ old.raws.items ++ bytes_in ev
    → (t : Turn) → t.event ≡ event ev → KeepsTurn old new t
raws_keep old new ev frames raws t at = λ test.
    ap (λ fs. passes test (handed_frames fs ++ new.raws.items)) frames
    ∙ (ap (λ rs. passes test (handed_frames old.traffic.frames.items ++ rs)) raws
    ∙ (ap (passes test) (sym (append_assoc (handed_frames old.traffic.frames.items) old.raws.items (bytes_in ev)))
    ∙ (passes_parts test (handed_bytes old) (bytes_in ev)
    ∙ (ap (λ b. passes test (handed_bytes old) && b) (event_passes test ev)
    ∙ ap (λ e. passes test (handed_bytes old) && list_all test (claims_in e)) (sym at)))))

-- a frame that is marked
pub marks_keep : (old new : World) (i : ℕ) (f : Sent) (from : ℕ) → slice_get old.traffic.frames.items i ≡ Some f
    → new.traffic.frames.items ≡ slice_set old.traffic.frames.items i (record f { handed = true }) → new.raws.items ≡ old.raws.items
    → (t : Turn) → t.event ≡ group.Hand from (frame_said f.bytes) → KeepsTurn old new t
marks_keep old new i f from get frames raws t at = λ test.
    let fs = old.traffic.frames.items in
    ap (λ xs. passes test (handed_frames xs ++ new.raws.items)) frames
    ∙ (ap (λ rs. passes test (handed_frames (slice_set fs i (record f { handed = true })) ++ rs)) raws
    ∙ (passes_parts test (handed_frames (slice_set fs i (record f { handed = true }))) old.raws.items
    ∙ (ap (λ b. b && passes test old.raws.items) (mark_adds test fs i f get)
    ∙ (and_swap (passes test (handed_frames fs)) (list_all test (claims_of f.bytes)) (passes test old.raws.items)
    ∙ (ap (λ b. b && list_all test (claims_of f.bytes)) (sym (passes_parts test (handed_frames fs) old.raws.items))
    ∙ ap (λ e. passes test (handed_bytes old) && list_all test (claims_in e)) (sym at))))))

-- marking changes no frame
pub marks_carry : (old new : Traffic) (v : plain.World) (i : ℕ) (f : Sent) → slice_get old.frames.items i ≡ Some f
    → new.frames.items ≡ slice_set old.frames.items i (record f { handed = true })
    → map delivery (deque_items new.pending) ≡ map delivery (deque_items old.pending) → new.bytes ≡ old.bytes → Carries old v
    → Carries new v
marks_carry old new v i f get frames pending bytes carried = record {
  frames = ap (map sent) frames ∙ (map_kept sent old.frames.items i f (record f { handed = true }) get refl ∙ carried.frames);
  pending = pending ∙ carried.pending;
  bytes = bytes ∙ carried.bytes;
  within = let P : ℕ → Type 0 = λ n. n ≤ most_sent in subst P (sym bytes) carried.within;
}

-- ---- a frame that was sent

-- the frame of this number is that of the code
pub delivers_frame : (h : Header) (old : World) (v : plain.World) (to frame : ℕ) (f : Sent) → Shows h old v
    → slice_get old.traffic.frames.items frame ≡ Some f
    → plain.delivers (setting_of h) v to frame ≡ plain.hands (setting_of h) v to (group.Hand f.sender (frame_said f.bytes))
delivers_frame h old v to frame f shows get =
    let there : slice_get v.frames frame
    ≡ Some (sent f) = ap (λ fs. slice_get fs frame)
    (sym shows.traffic.frames) ∙ (get_map sent old.traffic.frames.items frame ∙ ap (option_map sent) get) in
    ap (λ r. elim r as (λ (x : Option plain.Sent). plain.World) [ None ↦ v | Some g ↦ plain.hands_frame (setting_of h) v to g ]) there

-- no frame has this number
pub delivers_absent : (h : Header) (old : World) (v : plain.World) (to frame : ℕ) (xs : List Sent) → Shows h old v
    → xs ≡ old.traffic.frames.items → length xs ≤ frame
    → plain.delivers (setting_of h) v to frame ≡ v
delivers_absent h old v to frame xs shows same past =
    let long : length v.frames ≤ frame = omega
    (arith, past, ap length same, length-map old.traffic.frames.items sent, ap length shows.traffic.frames) in
    ap (λ r. elim r as (λ (x : Option plain.Sent). plain.World) [ None ↦ v | Some g ↦ plain.hands_frame (setting_of h) v to g ])
    (get_past v.frames frame long)

-- a world in which the player has taken the frame
pub delivered : (h : Header) (old stepped : World) (v : plain.World) (to i frame : ℕ) (f : Sent) (ev : Event) (r : Outcome) → Shows h old v
    → place_in to old.players.items ≡ Some i
    → StepsAt old.scheme old.players.items stepped.players.items i ev r → event ev ≡ group.Hand f.sender (frame_said f.bytes)
    → slice_get old.traffic.frames.items frame ≡ Some f
    → Turned old stepped → stepped.traffic.frames.items ≡ slice_set old.traffic.frames.items frame (record f { handed = true })
    → map delivery (deque_items stepped.traffic.pending) ≡ map delivery (deque_items old.traffic.pending)
    → stepped.traffic.bytes ≡ old.traffic.bytes → stepped.raws.items ≡ old.raws.items
    → Given h stepped v to (group.Hand f.sender (frame_said f.bytes)) r
delivered h old stepped v to i frame f ev r shows place steps same get turned frames pending bytes raws =
    let P : group.Event → Type 0 = λ e. Given h stepped v to e r in
    subst P same (given h old stepped v to i ev r shows place steps turned
    (marks_carry old.traffic stepped.traffic v frame f get frames pending bytes)
    (λ t at. marks_keep old stepped frame f f.sender get frames raws t (at ∙ same)))

-- the frame is handed to nobody
pub delivers_nobody : (old : World) (to frame : ℕ) (f : Sent) (r : Option ℕ) (ps : List Player)
    → slice_get old.traffic.frames.items frame ≡ Some f → r ≡ None → r ≡ place_in to ps → ps ≡ old.players.items
    → Becomes (λ h v. plain.delivers (setting_of h) v to frame) old old
delivers_nobody old to frame f r ps get none is same = λ h v shows.
    let Q : plain.World → Type 0 = λ w. Shows h old w in
    subst Q (sym (delivers_frame h old v to frame f shows get))
    (nobody old to (group.Hand f.sender (frame_said f.bytes)) r ps none is same h v shows)

-- an element of a list that was looked up
pub looked_up : {A : Type 0} (xs ys : List A) (k : ℕ) (x : A) → xs ≡ ys → true ≡ nat_lt k (length xs) → x ≡ get_or xs k x
    → slice_get ys k ≡ Some x
looked_up {A} xs ys k x same within at =
    ap (λ (zs : List A). slice_get zs k)
    (sym same) ∙ (slice_get-get_or xs k x (ltb-true k (length xs) (sym within)) ∙ ap (λ (y : A). Some y) (sym at))

-- ---- two facts of one result

pub on_ok_both : {T E : Type 0} (P Q : Type 0) (r : Result T E) → OnOk r P → OnOk r Q → OnOk r (P × Q)
on_ok_both P Q (Ok x) p q = (p, q)
on_ok_both P Q (Err e) p q = tt
