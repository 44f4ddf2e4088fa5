-- What the definitions' events make of a world, step by step.
use Rattle.std.proofs.Common.{◌≡◌, ℕ, zero, suc, ◌+◌, ◌<◌, ◌≤◌, Bool, true, false, cond, List, [], ◌∷◌, ◌++◌, length, map, Option, Some, None, Ok, Err, refl, sym, ap, subst, ◌∙◌, arith, append-nil}
use Rattle.std.specs.Prelude.{option_map, slice_get, drop, Result}
use Rattle.byte_defs.specs.Fields.{◌>>=◌}
use Rattle.message_defs.specs.Claims.{frame_said}
use Rattle.group_defs.specs.Process.{Setting}
use Rattle.group_defs.specs.Events as group
use Rattle.group_defs.specs.Events.{outcome}
use Rattle.replay_defs.specs.Schedules.{Header, ScheduleEvent, Pass}
use Rattle.replay_defs.specs.Worlds as plain
use Rattle.replay_defs.specs.Worlds.{World, Player, setting_of, turn_of, sum_above}
use Rattle.replay_world.specs.Traffic.{IsTooMuch, Carries}
use Rattle.replay_world.specs.Steps.{oldest_arrives}
use Rattle.replay_world.specs.Worlds.{IsFault}
use Rattle.replay_world.specs.declared.fault.WorldFault.{WorldFault}
use Rattle.replay_world.specs.declared.fault.WorldFault.TheVariants.{NoSuchFrame, TooMuchSent, NoMemory}
use Rattle.replay_world.specs.declared.traffic.Traffic.{Traffic}
use Rattle.replay_world.proofs.Sums.{sum_within}
use Rattle.replay_world.proofs.Sends.{Extends, extends-refl, extends-trans, sends_flat, sends_extend}
use Rattle.happenings.specs.Events.{frames_to}
use Rattle.std.specs.List.{flat_map}

-- ---- elements

pub get_map : {X Y : Type 0} (f : X → Y) (xs : List X) (i : ℕ) → slice_get (map f xs) i ≡ option_map f (slice_get xs i)
get_map f [] i = refl
get_map f (x ∷ xs) zero = refl
get_map f (x ∷ xs) (suc i) = get_map f xs i

-- an element that is there
pub record Found {X : Type 0} (xs : List X) (i : ℕ) : Type 0 where
  pub at : X
  pub is : slice_get xs i ≡ Some at

pub get_below : {X : Type 0} (xs : List X) (i : ℕ) → i < length xs → Found xs i
get_below [] i low = absurd (omega arith)
get_below (x ∷ xs) zero low = record { at = x; is = refl }
get_below (x ∷ xs) (suc i) low = let rest = get_below xs i (omega arith) in record { at = rest.at; is = rest.is }

pub get_past : {X : Type 0} (xs : List X) (i : ℕ) → length xs ≤ i → slice_get xs i ≡ None
get_past [] i past = refl
get_past (x ∷ xs) zero past = absurd (omega arith)
get_past (x ∷ xs) (suc i) past = get_past xs i (omega arith)

-- ---- what goes on

steps_extend : (s : Setting) (v : World) (e : group.Event) (c : Player) → Extends v (plain.steps s v e c)
steps_extend s v e c =
    let o = outcome s c.now (turn_of c e) in
    let p : ℕ = c.listed.process in
    let one : World = record v {
      players = map (plain.takes s p (turn_of c e)) v.players;
      refused = v.refused ++ plain.refused_if v p o.verdict;
      spent = cond o.spent (v.spent ++ p ∷ []) v.spent;
    } in
    let P : World → Type 0 = λ w. Extends v w in
    subst P (sym (sends_flat p o.sends one))
    (extends-trans v one _ (extends-refl v one refl refl) (sends_extend p (flat_map frames_to o.sends) one))

hands_extend : (s : Setting) (v : World) (p : ℕ) (e : group.Event) → Extends v (plain.hands s v p e)
hands_extend s v p e = by_player (plain.player_of v p) where
  by_player : (r : Option Player) → Extends v (elim r as (λ (x : Option Player). World) [ None ↦ v | Some c ↦ plain.steps s v e c ])
  by_player None = extends-refl v v refl refl
  by_player (Some c) = steps_extend s v e c

delivers_extend : (s : Setting) (v : World) (to frame : ℕ) → Extends v (plain.delivers s v to frame)
delivers_extend s v to frame = by_frame (slice_get v.frames frame) where
  by_frame : (r : Option plain.Sent)
      → Extends v (elim r as (λ (x : Option plain.Sent). World) [ None ↦ v | Some f ↦ plain.hands_frame s v to f ])
  by_frame None = extends-refl v v refl refl
  by_frame (Some f) = hands_extend s v to (group.Hand f.sender (frame_said f.bytes))

next_extend : (s : Setting) (mask : ℕ) (v : World) (d : ℕ × ℕ) → Extends v (plain.next_delivery s mask v d)
next_extend s mask v d = by_mask (plain.is_in mask d.1) where
  others : World
  others = record v { pending = drop 1 v.pending }

  by_mask : (b : Bool) → Extends v (cond b (plain.delivers s others d.1 d.0) others)
  by_mask true = extends-trans v others (plain.delivers s others d.1 d.0) (extends-refl v others refl refl)
      (delivers_extend s others d.1 d.0)
  by_mask false = extends-refl v others refl refl

-- draining goes on from what it made of the world
pub drains_extend : (s : Setting) (mask n : ℕ) (v : World) → Extends v (plain.drains s mask n v)
unfolding plain.drains
drains_extend s mask zero v = extends-refl v v refl refl
drains_extend s mask (suc n) v = by_oldest (slice_get v.pending 0) (λ w. drains_extend s mask n w) where
  by_oldest : (r : Option (ℕ × ℕ)) → ((w : World) → Extends w (plain.drains s mask n w))
      → Extends v (elim r as (λ (x : Option (ℕ × ℕ)). World) [ None ↦ v | Some d ↦ plain.drains s mask n (plain.next_delivery s mask v d) ])
  by_oldest None rest = extends-refl v v refl refl
  by_oldest (Some d) rest = extends-trans v (plain.next_delivery s mask v d) (plain.drains s mask n (plain.next_delivery s mask v d))
      (next_extend s mask v d) (rest (plain.next_delivery s mask v d))

-- ---- draining

-- where a delivery waits, it is the first of so many
pub drains_one : (s : Setting) (mask n : ℕ) (v : World) (d : ℕ × ℕ) → slice_get v.pending 0 ≡ Some d
    → plain.drains s mask (suc n) v ≡ plain.drains s mask n (oldest_arrives s mask v)
unfolding plain.drains
drains_one s mask n v d oldest =
    ap (λ r. elim r as (λ (x : Option (ℕ × ℕ)). World) [
      | None ↦ v
      | Some d ↦ plain.drains s mask n
          (plain.next_delivery s mask v d)
    ]) oldest
    ∙ sym (ap (λ r. plain.drains s mask n
    (elim r as (λ (x : Option (ℕ × ℕ)). World) [ None ↦ v | Some d ↦ plain.next_delivery s mask v d ])) oldest)

-- where none waits, nothing happens
pub drains_none : (s : Setting) (mask n : ℕ) (v : World) → slice_get v.pending 0 ≡ None → plain.drains s mask n v ≡ v
unfolding plain.drains
drains_none s mask zero v none = refl
drains_none s mask (suc n) v none =
    ap (λ r. elim r as (λ (x : Option (ℕ × ℕ)). World) [ None ↦ v | Some d ↦ plain.drains s mask n (plain.next_delivery s mask v d) ]) none

-- no deliveries
pub drains_zero : (s : Setting) (mask : ℕ) (v : World) → plain.drains s mask 0 v ≡ v
unfolding plain.drains
drains_zero s mask v = refl

-- the outcome of a world that goes on, and of one that stops
abbrev pub goes_on : World → Result World plain.WorldFault
goes_on w = Ok w

abbrev pub stopped : plain.WorldFault → Result World plain.WorldFault
stopped fault = Err fault

-- ---- a Pass

-- of a frame that was sent
pub pass_sent : (h : Header) (v : World) (frame to : ℕ) → frame < length v.frames
    → plain.happens h v (Pass frame to) ≡ Ok (plain.delivers (setting_of h) v to frame)
pass_sent h v frame to low =
    let f = get_below v.frames frame low in
    ap (λ r. elim r as (λ (x : Option plain.Sent). Result World plain.WorldFault) [
      | None ↦ Err
          (plain.NoSuchFrame v.count frame (length v.frames))
      | Some g ↦ Ok (plain.hands_frame (setting_of h) v to g)
    ]) f.is
    ∙ sym (ap (λ r. goes_on (elim r as
    (λ (x : Option plain.Sent). World) [ None ↦ v | Some g ↦ plain.hands_frame (setting_of h) v to g ])) f.is)

-- of one that was not
pub pass_unsent : (h : Header) (v : World) (frame to : ℕ) → length v.frames ≤ frame
    → plain.happens h v (Pass frame to) ≡ Err (plain.NoSuchFrame v.count frame (length v.frames))
pass_unsent h v frame to past =
    ap (λ r. elim r as (λ (x : Option plain.Sent). Result World plain.WorldFault) [
      | None ↦ Err
          (plain.NoSuchFrame v.count frame (length v.frames))
      | Some g ↦ Ok (plain.hands_frame (setting_of h) v to g)
    ])
    (get_past v.frames frame past)

-- ---- an event

-- what is too much stops the world
pub too_much_stops : (h : Header) (v x : World) (e : ScheduleEvent) (fault : WorldFault) → plain.happens h v e ≡ Ok x → IsTooMuch fault x
    → IsFault fault (plain.after_event h v e)
too_much_stops h v x e NoMemory is much = tt
too_much_stops h v x e (TooMuchSent event bytes) is much =
    let sum : sum_above 0 x.frames ≡ Some bytes = ap (sum_above 0) (sym (append-nil x.frames)) ∙ much.1 [] in
    ap (λ r. r >>= plain.counts) is
    ∙ (ap (λ r. elim r as (λ (o : Option ℕ). Result World plain.WorldFault) [
      | None ↦ Ok (record x { count = x.count + 1 })
      | Some n ↦ Err
          (plain.TooMuchSent x.count n)
    ]) sum
    ∙ ap (λ n. stopped (plain.TooMuchSent n bytes)) (sym much.0))
too_much_stops h v x e (NoSuchFrame event frame sent) is much = absurd much

-- what is not too much is counted
pub fits_counts : (h : Header) (v x : World) (e : ScheduleEvent) (t : Traffic) → plain.happens h v e ≡ Ok x → Carries t x
    → plain.after_event h v e ≡ Ok (record x { count = x.count + 1 })
fits_counts h v x e t is carried =
    let sum : sum_above 0 x.frames ≡ None = sum_within 0 x.frames (omega (arith, carried.bytes, carried.within)) in
    ap (λ r. r >>= plain.counts) is
    ∙ ap (λ r. elim r as (λ (o : Option ℕ). Result World plain.WorldFault) [
      | None ↦ Ok (record x { count = x.count + 1 })
      | Some n ↦ Err
          (plain.TooMuchSent x.count n)
    ]) sum
