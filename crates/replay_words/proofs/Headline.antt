-- The headline, of the family of each schedule that runs to its end: whatever happens, its processes are those of the header's that are
-- correct, by rising numbers, and begin in a view 0 of 1 to 16 members, so the laws on families hold.
use Rattle.std.proofs.Common.{◌≡◌, ℕ, zero, suc, ◌+◌, ◌≤◌, Bool, true, false, List, [], ◌∷◌, map, Option, Some, None, Result, Ok, Err, refl, sym, ap, subst, ◌∙◌, arith}
use Rattle.std.specs.Prelude.{if◌then◌else◌, ◌==◌, nat_le, find, fold, drop, length, slice_get}
use Rattle.std.specs.List.{filter_map, cons_option}
use Rattle.std.specs.List.Sorted.{IsStrictlyIncreasing}
use Rattle.std.proofs.lemmas.Bool.{leb-true}
use Rattle.text_defs.proofs.Tests.{and_true}
use Rattle.byte_defs.proofs.Fields.{bind_ok}
use Rattle.message_defs.specs.declared.FrameFault.{FrameFault}
use Rattle.message_defs.specs.Claims.{frame_said}
use Rattle.message_defs.specs.Statements.{Statement}
use Rattle.message_defs.specs.Reading.{statement_of}
use Rattle.group_defs.specs.Process.{Setting, start}
use Rattle.group_defs.specs.Events as group
use Rattle.group_defs.specs.Events.{Turn, Outcome, outcome}
use Rattle.group_defs.specs.Sending.{Sending, Bundle, frames_of}
use Rattle.group_defs.specs.Accounts.{Bounded}
use Rattle.group_defs.specs.Family.{Correct, Family, accounts, numbers, Honest}
use Rattle.group_defs.specs.Laws.{Premises}
use Rattle.safety_laws.proofs.AllAgree.{agreement}
use Rattle.safety_laws.proofs.OwnPayloads.{cause_and_order}
use Rattle.replay_defs.specs.declared.Scheme.{Scheme}
use Rattle.replay_defs.specs.Keys.{is_from}
use Rattle.replay_defs.specs.Schedules.{Listed, ScheduleEvent, Submit, Raw, Pass, Drain, Lie, Suspect, Join, Renew, Tick, Header, Schedule, AreListed, IsSchedule}
use Rattle.replay_defs.specs.Worlds.{Player, Sent, World, WorldFault, setting_of, begins, start_of, correct_of, family_of, is_in, send, send_all, with_turn, takes, turn_of, turns_out, steps, player_of, hands, hands_frame, delivers, next_delivery, drains, lie_claim, lies, sends_lie, NoSuchFrame, TooMuchSent, happens, sum_above, counts, after_event, run_events, world_of}
use Rattle.replay_words.specs.Answers.{Headline}

-- ---- who takes part stays

-- the numbers of those who take part
abbrev players : World → List ℕ
players w = map (λ (c : Player). c.listed.process) w.players

-- the same take part
abbrev Same : World → World → Type 0
Same w v = players v ≡ players w

takes-same : (s : Setting) (p : ℕ) (t : Turn) (cs : List Player)
    → map (λ (c : Player). c.listed.process) (map (takes s p t) cs) ≡ map (λ (c : Player). c.listed.process) cs
takes-same s p t [] = refl
takes-same s p t (c ∷ cs) = cc (takes-same s p t cs, go (c.listed.process == p))
  where
    go : (b : Bool) → (let d : Player = if b then with_turn s t c else c in d).listed.process ≡ c.listed.process
    go true = refl
    go false = refl

sends-same : (sender : ℕ) (to : ℕ → Bool) (bytes : List (List ℕ)) (w : World) → Same w (fold (send sender to) w bytes)
sends-same sender to [] w = refl
sends-same sender to (b ∷ bytes) w = sends-same sender to bytes (send sender to w b)

sendings-same : (sender : ℕ) (out : List Sending) (w : World) → Same w (fold (send_all sender) w out)
sendings-same sender [] w = refl
sendings-same sender (o ∷ out) w = sendings-same sender out (send_all sender w o) ∙ sends-same sender _ (frames_of o.parcel) w

-- ---- event by event

module _ (h : Header) where
  abbrev s : Setting
  s = setting_of h

  turns-same : (w : World) (p : ℕ) (t : Turn) (o : Outcome) → Same w (turns_out s w p t o)
  turns-same w p t o = sendings-same p o.sends _ ∙ takes-same s p t w.players

  hands-same : (w : World) (p : ℕ) (e : group.Event) → Same w (hands s w p e)
  hands-same w p e = go (player_of w p)
    where
      go : (o : Option Player) → Same w (let v : World = elim o [ None ↦ w | Some c ↦ steps s w e c ] in v)
      go None = refl
      go (Some c) = turns-same w c.listed.process (turn_of c e) (outcome s c.now (turn_of c e))

  delivers-same : (w : World) (to frame : ℕ) → Same w (delivers s w to frame)
  delivers-same w to frame = go (slice_get w.frames frame)
    where
      go : (o : Option Sent) → Same w (let v : World = elim o [ None ↦ w | Some f ↦ hands_frame s w to f ] in v)
      go None = refl
      go (Some f) = hands-same w to (group.Hand f.sender (frame_said f.bytes))

  next-same : (mask : ℕ) (w : World) (d : ℕ × ℕ) → Same w (next_delivery s mask w d)
  next-same mask w d = go (is_in mask d.1)
    where
      go : (b : Bool) → Same w (let v : World = if b then delivers s (record w { pending = drop 1 w.pending }) d.1 d.0
          else record w { pending = drop 1 w.pending } in v)
      go true = delivers-same (record w { pending = drop 1 w.pending }) d.1 d.0
      go false = refl

  drains-same : (mask count : ℕ) (w : World) → Same w (drains s mask count w)
  unfolding drains
  drains-same mask zero w = refl
  drains-same mask (suc more) w = go (slice_get w.pending 0) (drains-same mask more)
    where
      go : (o : Option (ℕ × ℕ)) → ((v : World) → Same v (drains s mask more v))
          → Same w (let v : World = elim o [ None ↦ w | Some d ↦ drains s mask more (next_delivery s mask w d) ] in v)
      go None rest = refl
      go (Some d) rest = rest (next_delivery s mask w d) ∙ next-same mask w d

  lie-same : (w : World) (mask : ℕ) (l : Listed) (st : Statement) → Same w (sends_lie h w mask l st)
  lie-same w mask l st = go _ (frames_of (Bundle (lie_claim h w l st ∷ [])))
    where
      go : (b : Bool) (bytes : List (List ℕ)) → Same w (let v : World = if b then fold (send l.process (is_in mask)) w bytes else w in v)
      go true bytes = sends-same l.process (is_in mask) bytes w
      go false bytes = refl

  lies-same : (w : World) (signer mask : ℕ) (statement : List ℕ) → Same w (lies h w signer mask statement)
  lies-same w signer mask statement = of_listed (find (λ l. l.process == signer) h.processes)
    where
      of_statement : (l : Listed) (r : Result Statement FrameFault)
          → Same w (let v : World = elim r [ Ok st ↦ sends_lie h w mask l st | Err fault ↦ w ] in v)
      of_statement l (Ok st) = lie-same w mask l st
      of_statement l (Err fault) = refl

      of_listed : (o : Option Listed)
          → Same w (let v : World = elim o [
            | None ↦ w
            | Some l ↦ elim
                (statement_of statement) [ Ok st ↦ sends_lie h w mask l st | Err fault ↦ w ]
          ] in v)
      of_listed None = refl
      of_listed (Some l) = of_statement l (statement_of statement)

  -- a world that is answered is the one that was made
  made : (w v made : World) → (let r : Result World WorldFault = Ok made in r) ≡ Ok v → Same w made → Same w v
  made w v x is same = let e : x ≡ v = cc in subst (Same w) e same

  happens-same : (w v : World) (e : ScheduleEvent) → happens h w e ≡ Ok v → Same w v
  happens-same w v (Submit p payload) is = made w v _ is (hands-same w p (group.Submit payload))
  happens-same w v (Raw to from bytes) is = made w v _ is (hands-same w to (group.Hand from (frame_said bytes)))
  happens-same w v (Pass frame to) is = go (slice_get w.frames frame) is
    where
      go : (o : Option Sent) → (let r : Result World WorldFault = elim o [
        | None ↦ Err
            (NoSuchFrame w.count frame (length w.frames))
        | Some f ↦ Ok (hands_frame s w to f)
      ] in r) ≡ Ok v → Same w v
      go None e = absurd cc
      go (Some f) e = made w v (hands_frame s w to f) e (hands-same w to (group.Hand f.sender (frame_said f.bytes)))
  happens-same w v (Drain count mask) is = made w v _ is (drains-same mask count w)
  happens-same w v (Lie signer mask statement) is = made w v _ is (lies-same w signer mask statement)
  happens-same w v (Suspect p q) is = made w v _ is (hands-same w p (group.Suspect q))
  happens-same w v (Join p q) is = made w v _ is (hands-same w p (group.Join q))
  happens-same w v (Renew p) is = made w v _ is (hands-same w p group.RenewView)
  happens-same w v (Tick p) is = made w v _ is (hands-same w p group.Tick)

  counts-same : (w v : World) → counts w ≡ Ok v → Same w v
  counts-same w v is = go (sum_above 0 w.frames) is
    where
      go : (o : Option ℕ) → (let r : Result World WorldFault = elim o [
        | None ↦ Ok (record w { count = w.count + 1 })
        | Some bytes ↦ Err
            (TooMuchSent w.count bytes)
      ] in r) ≡ Ok v → Same w v
      go None e = made w v (record w { count = w.count + 1 }) e refl
      go (Some bytes) e = absurd cc

  event-same : (w v : World) (e : ScheduleEvent) → after_event h w e ≡ Ok v → Same w v
  event-same w v e is = let a = bind_ok (happens h w e) counts v is in counts-same a.0 v a.2 ∙ happens-same w a.0 e a.1

  run-same : (es : List ScheduleEvent) (w v : World) → run_events h w es ≡ Ok v → Same w v
  unfolding run_events
  run-same [] w v is = made w v w is refl
  run-same (e ∷ es) w v is = let a = bind_ok (after_event h w e)
      (λ u. run_events h u es) v is in run-same es a.0 v a.2 ∙ event-same w a.0 e a.1

-- ---- the numbers rise

-- rising numbers from this one on
abbrev Rises : ℕ → List ℕ → Type 0
Rises least [] = Unit {0}
Rises least (n ∷ ns) = (least ≤ n) × Rises (n + 1) ns

rises-weaken : (least more : ℕ) (ns : List ℕ) → least ≤ more → Rises more ns → Rises least ns
rises-weaken least more [] le rises = tt
rises-weaken least more (n ∷ ns) le rises = (omega (arith, rises.0), rises.1)

rises-increasing : (least : ℕ) (ns : List ℕ) → Rises least ns → IsStrictlyIncreasing ns
rises-increasing least [] rises k lt = absurd (omega arith)
rises-increasing least (n ∷ []) rises k lt = absurd (omega arith)
rises-increasing least (n ∷ m ∷ ns) rises zero lt = let more = rises.1.0 in omega (arith, more)
rises-increasing least (n ∷ m ∷ ns) rises (suc k) lt =
    let next : suc k + 1 ≡ suc (k + 1) = omega arith in rw next (rises-increasing (n + 1) (m ∷ ns) rises.1 k (omega arith))

module _ (h : Header) where
  -- the correct processes of those listed
  starters : List Listed → List Player
  starters ls = filter_map (begins h) ls

  abbrev numbers_in : List Player → List ℕ
  numbers_in cs = map (λ (c : Player). c.listed.process) cs

  starters-rise : (scheme : Scheme) (least : ℕ) (ls : List Listed) → AreListed scheme least ls → Rises least (numbers_in (starters ls))
  unfolding starters
  starters-rise scheme least [] rises = tt
  starters-rise scheme least (l ∷ ls) rises = go l.corrupt (starters-rise scheme (l.process + 1) ls rises.3)
    where
      go : (b : Bool) → Rises (l.process + 1) (numbers_in (starters ls))
          → Rises least (numbers_in (cons_option
          (if b then None else Some (record { listed = l; now = start (setting_of h) l.process h.batch_limit; turns = [] })) (starters ls)))
      go true rest = rises-weaken least (l.process + 1) (numbers_in (starters ls)) (omega (arith, rises.0)) rest
      go false rest = (rises.0, rest)

  numbers-are : (cs : List Player) → map (λ (c : Correct). c.me) (map (correct_of h) cs) ≡ numbers_in cs
  numbers-are [] = refl
  numbers-are (c ∷ cs) = ap (λ (ns : List ℕ). c.listed.process ∷ ns) (numbers-are cs)

-- ---- at the end

-- the number is in the range that is tested
in-range : (least most n : ℕ) → is_from least most n ≡ true → (least ≤ n) × (n ≤ most)
in-range least most n e = let both = and_true (nat_le least n) (nat_le n most) e in (leb-true least n both.0, leb-true n most both.1)

module _ (sch : Schedule) (w : World) (fits : IsSchedule sch) (ran : world_of sch ≡ Ok w) where
  abbrev f : Family
  f = family_of sch.header w

  premises : Honest f → Bounded (accounts f) (numbers f) → Premises f
  unfolding starters
  premises honest bounded =
      let h = fits.header in
      let some = in-range 1 16 (length sch.header.genesis) h.members in
      let rising = rises-increasing 0 (players (start_of sch.header))
      (starters-rise sch.header sch.header.scheme 0 sch.header.processes h.processes) in
      let same = run-same sch.header sch.events (start_of sch.header) w ran in
      record {
        genesis = record { some = some.0; few = some.1; distinct = h.distinct };
        first = refl;
        rising = subst IsStrictlyIncreasing (sym (numbers-are sch.header w.players ∙ same)) rising;
        honest = honest;
        bounded = bounded;
      }

  pub headline : Headline f
  headline = λ honest bounded. (agreement f (premises honest bounded), cause_and_order f (premises honest bounded))
