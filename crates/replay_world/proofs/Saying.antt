-- What is told of what happens in a world, one thing behind another.
use Rattle.std.proofs.Common.{◌≡◌, ℕ, zero, suc, ◌≤◌, Bool, true, false, cond, List, [], ◌∷◌, ◌++◌, length, map, Option, Some, None, refl, sym, ap, subst, ◌∙◌, arith, append_assoc, append-nil}
use Rattle.std.specs.Prelude.{◌==◌, find, option_map, slice_get, drop, is_some, is_ok, Ok, Err, OnOk, Result}
use Rattle.std.proofs.lemmas.List.{length-map}
use Rattle.message_defs.specs.Claims.{frame_said}
use Rattle.group_defs.specs.Process.{Setting}
use Rattle.group_defs.specs.Events as group
use Rattle.group_defs.specs.Events.{outcome}
use Rattle.replay_defs.specs.Schedules.{Header}
use Rattle.replay_defs.specs.Worlds as plain
use Rattle.replay_defs.specs.Worlds.{setting_of, turn_of}
use Rattle.trace_defs.specs.Outcomes.{seen}
use Rattle.trace_defs.specs.Happenings.{Happening, Takes, Loses, Handed, Frame}
use Rattle.reported_defs.specs.Reported.{takes_in, gets_frame, loses, next_tells, drain_tells}
use Rattle.happenings.specs.declared.reported.Reported.{Reported}
use Rattle.happenings.specs.Reported.{reported_of, WasReported}
use Rattle.replay_world.specs.declared.traffic.Sent.{Sent}
use Rattle.replay_world.specs.declared.world.World.{World}
use Rattle.std.specs.VecDeque.{deque_items}
use Rattle.replay_world.specs.declared.traffic.Delivery.{Delivery}
use Rattle.replay_world.specs.Traffic.{sent, delivery}
use Rattle.replay_world.specs.Worlds.{Shows}
use Rattle.replay_world.specs.Steps.{oldest_arrives}
use Rattle.replay_world.specs.Telling.{arrives_or_lost, frame_count, oldest_tells}
use Rattle.replay_world.proofs.Happenings.{get_map, get_past}

-- ---- nothing, and more

none_more : (o : Option (List Happening)) → o ≡ option_map (λ (before : List Happening). before ++ []) o
none_more None = refl
none_more (Some before) = ap (λ (b : List Happening). Some b) (sym (append-nil before))

pub tells_nothing : (a : Reported) → WasReported a [] a
tells_nothing a = none_more (reported_of a)

both_more : (o : Option (List Happening)) (xs ys : List Happening)
    → option_map (λ (before : List Happening). before ++ ys) (option_map (λ (before : List Happening). before ++ xs) o)
    ≡ option_map (λ (before : List Happening). before ++ (xs ++ ys)) o
both_more None xs ys = refl
both_more (Some before) xs ys = ap (λ (b : List Happening). Some b) (append_assoc before xs ys)

pub tells_more : (a b c : Reported) (xs ys : List Happening) → WasReported a xs b → WasReported b ys c → WasReported a (xs ++ ys) c
tells_more a b c xs ys first second =
    second ∙ ap (option_map (λ (before : List Happening). before ++ ys)) first ∙ both_more (reported_of a) xs ys

-- ---- a process takes what it is handed

-- nobody has this number
pub takes_absent : (s : Setting) (v : plain.World) (p : ℕ) (what : Handed) (e : group.Event)
    → find (λ x. x.listed.process == p) v.players ≡ None → takes_in s v p what e ≡ []
takes_absent s v p what e none =
    ap (λ r. elim r as (λ (x : Option plain.Player). List Happening) [
      | None ↦ []
      | Some c ↦ Takes p what (length v.frames) (seen (outcome s c.now (turn_of c e))) ∷ []
    ]) none

pub takes_placed : (s : Setting) (v : plain.World) (p : ℕ) (what : Handed) (e : group.Event) (c : plain.Player)
    → find (λ x. x.listed.process == p) v.players ≡ Some c
    → takes_in s v p what e ≡ Takes p what (length v.frames) (seen (outcome s c.now (turn_of c e))) ∷ []
takes_placed s v p what e c found =
    ap (λ r. elim r as (λ (x : Option plain.Player). List Happening) [
      | None ↦ []
      | Some c ↦ Takes p what (length v.frames) (seen (outcome s c.now (turn_of c e))) ∷ []
    ]) found

-- ---- a frame

there : (h : Header) (old : World) (v : plain.World) (frame : ℕ) (f : Sent) → Shows h old v
    → slice_get old.traffic.frames.items frame ≡ Some f → slice_get v.frames frame ≡ Some (sent f)
there h old v frame f shows get =
    ap (λ fs. slice_get fs frame) (sym shows.traffic.frames) ∙ (get_map sent old.traffic.frames.items frame ∙ ap (option_map sent) get)

absent : (h : Header) (old : World) (v : plain.World) (frame : ℕ) (xs : List Sent) → Shows h old v → xs ≡ old.traffic.frames.items
    → length xs ≤ frame → slice_get v.frames frame ≡ None
absent h old v frame xs shows same past =
    get_past v.frames frame (omega (arith, past, ap length same, length-map old.traffic.frames.items sent, ap length shows.traffic.frames))

pub gets_sent : (h : Header) (old : World) (v : plain.World) (to frame : ℕ) (f : Sent) → Shows h old v
    → slice_get old.traffic.frames.items frame ≡ Some f
    → gets_frame (setting_of h) v to frame ≡ takes_in (setting_of h) v to (Frame frame f.sender) (group.Hand f.sender (frame_said f.bytes))
gets_sent h old v to frame f shows get =
    ap (λ r. elim r as (λ (x : Option plain.Sent). List Happening) [
      | None ↦ []
      | Some g ↦ takes_in (setting_of h) v to (Frame frame g.sender) (group.Hand g.sender (frame_said g.bytes))
    ]) (there h old v frame f shows get)

pub gets_absent : (h : Header) (old : World) (v : plain.World) (to frame : ℕ) (xs : List Sent) → Shows h old v
    → xs ≡ old.traffic.frames.items → length xs ≤ frame
    → gets_frame (setting_of h) v to frame ≡ []
gets_absent h old v to frame xs shows same past =
    ap (λ r. elim r as (λ (x : Option plain.Sent). List Happening) [
      | None ↦ []
      | Some g ↦ takes_in (setting_of h) v to (Frame frame g.sender) (group.Hand g.sender (frame_said g.bytes))
    ]) (absent h old v frame xs shows same past)

pub loses_sent : (h : Header) (old : World) (v : plain.World) (to frame : ℕ) (f : Sent) → Shows h old v
    → slice_get old.traffic.frames.items frame ≡ Some f
    → loses v (frame, to) ≡ Loses frame f.sender to ∷ []
loses_sent h old v to frame f shows get =
    ap (λ r. elim r as (λ (x : Option plain.Sent). List Happening) [ None ↦ [] | Some g ↦ Loses frame g.sender to ∷ [] ])
    (there h old v frame f shows get)

pub loses_absent : (h : Header) (old : World) (v : plain.World) (to frame : ℕ) (xs : List Sent) → Shows h old v
    → xs ≡ old.traffic.frames.items → length xs ≤ frame
    → loses v (frame, to) ≡ []
loses_absent h old v to frame xs shows same past =
    ap (λ r. elim r as (λ (x : Option plain.Sent). List Happening) [ None ↦ [] | Some g ↦ Loses frame g.sender to ∷ [] ])
    (absent h old v frame xs shows same past)

-- as many frames were sent
pub frames_counted : (h : Header) (old : World) (v : plain.World) → Shows h old v → length v.frames ≡ frame_count old
frames_counted h old v shows = omega (arith, length-map old.traffic.frames.items sent, ap length shows.traffic.frames)

-- ---- deliveries, one after another

-- no deliveries
pub zero_reported : (s : Setting) (mask : ℕ) (v : plain.World) → drain_tells s mask 0 v ≡ []
unfolding drain_tells
zero_reported s mask v = refl

-- what the oldest delivery tells, and those behind it
pub one_reported : (s : Setting) (mask left : ℕ) (v : plain.World) (r : Option (ℕ × ℕ)) → slice_get v.pending 0 ≡ r → is_some r ≡ true
    → drain_tells s mask (suc left) v ≡ oldest_tells s mask v ++ drain_tells s mask left (oldest_arrives s mask v)
unfolding drain_tells
one_reported s mask left v None e waits = absurd cc
one_reported s mask left v (Some d) e waits =
    let tells : Option (ℕ × ℕ) → List Happening = λ r. elim r as
    (λ (x : Option (ℕ × ℕ)). List Happening) [ None ↦ [] | Some d ↦ next_tells s mask v d ] in
    let leads : Option (ℕ × ℕ) → plain.World = λ r. elim r as
    (λ (x : Option (ℕ × ℕ)). plain.World) [ None ↦ v | Some d ↦ plain.next_delivery s mask v d ] in
    ap (λ r. elim r as (λ (x : Option (ℕ × ℕ)). List Happening) [
      | None ↦ []
      | Some d ↦ next_tells s mask v d ++ drain_tells s mask left (plain.next_delivery s mask v d)
    ]) e
    ∙ ap (λ (xs : List Happening). xs ++ drain_tells s mask left (plain.next_delivery s mask v d)) (sym (ap tells e))
    ∙ ap (λ (w : plain.World). oldest_tells s mask v ++ drain_tells s mask left w) (sym (ap leads e))

pub none_reported : (s : Setting) (mask left : ℕ) (v : plain.World) (r : Option (ℕ × ℕ)) → slice_get v.pending 0 ≡ r → is_some r ≡ false
    → drain_tells s mask left v ≡ oldest_tells s mask v
unfolding drain_tells
none_reported s mask zero v None e none = sym
    (ap (λ r. elim r as (λ (x : Option (ℕ × ℕ)). List Happening) [ None ↦ [] | Some d ↦ next_tells s mask v d ]) e)
none_reported s mask (suc left) v None e none =
    ap (λ r. elim r as (λ (x : Option (ℕ × ℕ)). List Happening) [
      | None ↦ []
      | Some d ↦ next_tells s mask v d ++ drain_tells s mask left (plain.next_delivery s mask v d)
    ]) e
    ∙ sym (ap (λ r. elim r as (λ (x : Option (ℕ × ℕ)). List Happening) [ None ↦ [] | Some d ↦ next_tells s mask v d ]) e)
none_reported s mask left v (Some d) e none = absurd cc

-- ---- the oldest delivery

-- the oldest delivery tells what it does in a world where it waits no more
pub oldest_reported : (h : Header) (old mid : World) (v : plain.World) (d : Delivery) (mask : ℕ) → Shows h old v
    → deque_items old.traffic.pending ≡ d ∷ deque_items mid.traffic.pending
    → oldest_tells (setting_of h) mask v ≡ arrives_or_lost (setting_of h) mask (record v { pending = drop 1 v.pending }) (delivery d)
oldest_reported h old mid v d mask s popped =
    let oldest : slice_get v.pending 0 ≡ Some (delivery d) = ap (λ ds. slice_get ds 0) (sym s.traffic.pending ∙ ap (map delivery) popped) in
    ap (λ r. elim r as (λ (x : Option (ℕ × ℕ)). List Happening) [ None ↦ [] | Some e ↦ next_tells (setting_of h) mask v e ]) oldest
