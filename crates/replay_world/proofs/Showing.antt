-- A world that shows one of the definitions, after a step.
use Rattle.std.proofs.Common.{◌≡◌, ℕ, zero, suc, ◌+◌, Bool, true, false, cond, if◌then◌else◌, ◌&&◌, ◌||◌, ◌==◌, not, List, [], ◌∷◌, ◌++◌, map, Some, None, refl, sym, ap, subst, ◌∙◌, append-nil, Option}
use Rattle.std.proofs.lemmas.List.{map-append}
use Rattle.std.specs.Prelude.{filter, find, fold, slice_get, slice_set}
use Rattle.std.specs.List.{AllByRecursion, list_all, flat_map}
use Rattle.std.proofs.lemmas.Bool.{eq-eqb}
use Rattle.byte_defs.specs.Members.{has}
use Rattle.happenings.specs.Events.{fault as fault_of}
use Rattle.group_defs.specs.Process.{Setting, Process, start}
use Rattle.group_defs.specs.Events as group
use Rattle.group_defs.specs.Events.{Turn, after, run, outcome}
use Rattle.group_defs.specs.Family.{handed, claims_in}
use Rattle.replay_defs.specs.Schedules.{Header, Listed}
use Rattle.replay_defs.specs.Worlds as plain
use Rattle.replay_defs.specs.Worlds.{setting_of, with_turn, turn_of, takes, correct_of, family_of}
use Rattle.member_events.specs.declared.events.EventVerdict.{EventVerdict}
use Rattle.member_events.specs.declared.events.EventVerdict.TheVariants as verdicts
use Rattle.member_events.specs.declared.events.Outcome.{Outcome}
use Rattle.happenings.specs.Events.{frame_to, IsOutcome, refusal}
use Rattle.signature_defs.specs.Schemes.{is_valid}
use Rattle.sig_scheme.specs.Views.{scheme as scheme_of}
use Rattle.replay_cast.specs.declared.player.Player.{Player}
use Rattle.replay_cast.specs.declared.liar.Liar.{Liar}
use Rattle.replay_cast.specs.Liars.{AreLiars}
use Rattle.replay_cast.specs.Players.{ArePlayers, process_of}
use Rattle.replay_world.specs.declared.world.Refused.{Refused}
use Rattle.replay_world.specs.declared.world.World.{World}
use Rattle.replay_world.specs.declared.fault.WorldFault.{WorldFault}
use Rattle.replay_world.specs.Traffic.{Carries, Sends, SendsTooMuch, IsTooMuch, sends_all, numbers}
use Rattle.replay_world.specs.Handing.{handed_frames, claims_of}
use Rattle.replay_world.specs.Stepping.{refused, Refuses, Spends}
use Rattle.replay_world.specs.Worlds.{Shows, IsRun, handed_bytes}
use Rattle.replay_world.specs.Steps.{noted}
use Rattle.replay_world.proofs.Sends.{Outgoing, sends_flat, sends_players, sends_refused, sends_spent, sends_count, sends_frames, sent_by}
use Rattle.replay_world.proofs.Seats.{Rises, listed_rise, numbers_of, numbers_listed, takes_at}
use Rattle.replay_world.proofs.Apart.{NotOf, correct_apart, liars_keep, corrupt_of}
use Rattle.replay_world.proofs.HandedOver.{Test, passes, family_handed, turn_adds}

-- ---- lists

pub map_kept : {X Y : Type 0} (f : X → Y) (xs : List X) (i : ℕ) (x y : X) → slice_get xs i ≡ Some x → f y ≡ f x
    → map f (slice_set xs i y) ≡ map f xs
map_kept f [] i x y get same = refl
map_kept f (z ∷ zs) zero x y get same = let at : z ≡ x = cc in ap (λ v. v ∷ map f zs) (same ∙ ap f (sym at))
map_kept f (z ∷ zs) (suc i) x y get same = ap (λ vs. f z ∷ vs) (map_kept f zs i x y get same)

pub all_set : {X : Type 0} (P : X → Type 0) (xs : List X) (i : ℕ) (y : X) → P y → AllByRecursion P xs → AllByRecursion P (slice_set xs i y)
all_set P [] i y here h = h
all_set P (z ∷ zs) zero y here h = (here, h.1)
all_set P (z ∷ zs) (suc i) y here h = (h.0, all_set P zs i y here h.1)

pub all_at : {X : Type 0} (P : X → Type 0) (xs : List X) (i : ℕ) (x : X) → slice_get xs i ≡ Some x → AllByRecursion P xs → P x
all_at P [] i x get h = absurd cc
all_at P (z ∷ zs) zero x get h = let at : z ≡ x = cc in subst P at h.0
all_at P (z ∷ zs) (suc i) x get h = all_at P zs i x get h.1

-- ---- players

pub players_numbers : (s : Setting) (ps : List Player) (cs : List plain.Player) → ArePlayers s ps cs → map process_of ps ≡ numbers_of cs
players_numbers s [] [] h = refl
players_numbers s (p ∷ ps) (c ∷ cs) h = ap (λ q. q ∷ map process_of ps) h.0.process ∙ ap (λ qs. c.listed.process ∷ qs)
    (players_numbers s ps cs h.1)
players_numbers s [] (c ∷ cs) h = absurd h
players_numbers s (p ∷ ps) [] h = absurd h

run_more : (s : Setting) (p : Process) (ts : List Turn) (t : Turn) → run s p (ts ++ t ∷ []) ≡ after s (run s p ts) t
unfolding run
run_more s p [] t = refl
run_more s p (u ∷ us) t = run_more s (after s p u) us t

-- a player that takes a turn is what its turns make of it
pub ran_on : (h : Header) (c : plain.Player) (t : Turn) → IsRun h c → IsRun h (with_turn (setting_of h) t c)
ran_on h c t ran =
    ap (λ p. after (setting_of h) p t) ran
    ∙ sym (run_more (setting_of h) (start (setting_of h) c.listed.process h.batch_limit) c.turns t)

-- the numbers of the players of a world rise
pub players_rise : (h : Header) (w : World) (v : plain.World) → Shows h w v → Rises 0 (numbers_of v.players)
players_rise h w v s =
    let listed : numbers_of v.players ≡ map (λ l. l.process) (filter (λ l. not l.corrupt) h.processes) =
    numbers_listed v.players ∙ ap (map (λ (l : Listed). l.process)) s.listed in
    let P : List ℕ → Type 0 = λ ps. Rises 0 ps in
    subst P (sym listed) (listed_rise h.scheme 0 (λ l. not l.corrupt) h.processes s.rising)

-- a player's number is that of no liar
pub player_apart : (h : Header) (w : World) (v : plain.World) (p : ℕ) → Shows h w v → has (numbers v) p ≡ true
    → NotOf p (corrupt_of h.processes)
player_apart h w v p s among =
    let listed : numbers_of v.players ≡ map (λ l. l.process) (filter (λ l. not l.corrupt) h.processes) =
    numbers_listed v.players ∙ ap (map (λ (l : Listed). l.process)) s.listed in
    correct_apart h.scheme 0 p h.processes s.rising (ap (λ ps. has ps p) (sym listed) ∙ among)

-- ---- a turn

-- what the bytes that are kept of a turn's event pass
abbrev pub KeepsTurn : World → World → Turn → Type 0
KeepsTurn old new t = (test : Test) → passes test (handed_bytes new) ≡ (passes test (handed_bytes old) && list_all test (claims_in t.event))

-- what a turn changes of a world: the players, and what was handed over
pub record Turned (old new : World) : Type 0 where
  pub group : new.group ≡ old.group
  pub scheme : new.scheme ≡ old.scheme
  pub roster : new.roster ≡ old.roster
  pub liars : new.liars.items ≡ old.liars.items
  pub refused : new.refused.items ≡ old.refused.items
  pub spent : new.spent.items ≡ old.spent.items
  pub count : new.count ≡ old.count

-- the world in which the player at a place has taken a turn
abbrev pub turned_at : Header → plain.World → ℕ → Turn → plain.Player → plain.World
turned_at h v i t c = record v { players = slice_set v.players i (with_turn (setting_of h) t c) }

pub turned_shows : (h : Header) (old new : World) (v : plain.World) (i : ℕ) (c : plain.Player) (t : Turn) → Shows h old v
    → slice_get v.players i ≡ Some c
    → Turned old new → ArePlayers (setting_of h) new.players.items (slice_set v.players i (with_turn (setting_of h) t c))
    → Carries new.traffic v → KeepsTurn old new t
    → Shows h new (turned_at h v i t c)
turned_shows h old new v i c t s get same players traffic kept = record {
  rising = s.rising;
  group = same.group ∙ s.group;
  roster = same.roster ∙ s.roster;
  scheme = s.scheme ∙ ap (λ x. is_valid (scheme_of x)) (sym same.scheme);
  players = players;
  listed = map_kept (λ (x : plain.Player). x.listed) v.players i c (with_turn (setting_of h) t c) get refl ∙ s.listed;
  ran = all_set (IsRun h) v.players i (with_turn (setting_of h) t c) (ran_on h c t (all_at (IsRun h) v.players i c get s.ran)) s.ran;
  liars = let P : List Liar → Type 0 = λ xs. AreLiars v.frames xs (corrupt_of h.processes) in subst P (sym same.liars) s.liars;
  traffic = record { frames = traffic.frames; pending = traffic.pending; bytes = traffic.bytes; within = traffic.within };
  handed = λ test.
      ap (list_all test) (family_handed h (slice_set v.players i (with_turn (setting_of h) t c)))
      ∙ (turn_adds test v.players i c (with_turn (setting_of h) t c) t get refl
      ∙ (ap (λ b. b && list_all test (claims_in t.event)) (ap (list_all test) (sym (family_handed h v.players)) ∙ s.handed test)
      ∙ sym (kept test)));
  refused = ap (map refused) same.refused ∙ s.refused;
  spent = same.spent ∙ s.spent;
  count = same.count ∙ s.count;
}

-- ---- what came of it

-- noting changes the traffic, the refusals and the spent keys of a world, and nothing else
pub record Noted (old new : World) : Type 0 where
  pub group : new.group ≡ old.group
  pub scheme : new.scheme ≡ old.scheme
  pub roster : new.roster ≡ old.roster
  pub players : new.players.items ≡ old.players.items
  pub liars : new.liars.items ≡ old.liars.items
  pub raws : new.raws.items ≡ old.raws.items
  pub frames : handed_frames new.traffic.frames.items ≡ handed_frames old.traffic.frames.items
  pub count : new.count ≡ old.count

-- the refusal and the spent key are kept, and nothing is sent yet
abbrev pub written : ℕ → group.Outcome → plain.World → plain.World
written p o v = record v { refused = v.refused ++ plain.refused_if v p o.verdict; spent = if o.spent then v.spent ++ p ∷ [] else v.spent }

-- what goes out of it, frame by frame
pub noted_flat : (p : ℕ) (o : group.Outcome) (r : Outcome) (v : plain.World) → IsOutcome o r
    → noted p o v ≡ sends_all p (map frame_to r.sends.items) (written p o v)
noted_flat p o r v is = sends_flat p o.sends (written p o v) ∙ ap (λ (ds : Outgoing). sends_all p ds (written p o v)) is.sends

pub refusal_written : (v : plain.World) (old new : List Refused) (event p : ℕ) (verdict : EventVerdict) → map refused old ≡ v.refused
    → event ≡ v.count → Refuses old event p verdict new
    → map refused new ≡ v.refused ++ plain.refused_if v p (refusal verdict)
refusal_written v old new event p verdicts.Taken same at h = ap (map refused) h ∙ (same ∙ sym (append-nil v.refused))
refusal_written v old new event p (verdicts.Refused f) same at h =
    ap (map refused) h
    ∙ (map-append refused old (record { event = event; process = p; fault = f } ∷ [])
    ∙ (ap (λ rs. rs ++ refused (record { event = event; process = p; fault = f }) ∷ []) same
    ∙ ap (λ n. v.refused ++ record { event = n; process = p; fault = fault_of f } ∷ []) at))

pub noted_shows : (h : Header) (old new : World) (v : plain.World) (p : ℕ) (o : group.Outcome) (r : Outcome) → Shows h old v
    → has (numbers v) p ≡ true → IsOutcome o r
    → Noted old new → Refuses old.refused.items old.count p r.verdict new.refused.items → Spends old.spent.items p r.spent new.spent.items
    → Sends old.players.items old.traffic new.traffic (sends_all p (map frame_to r.sends.items))
    → Shows h new (noted p o v)
noted_shows h old new v p o r s among is same refuses spends sends =
    let P : plain.World → Type 0 = λ w. Shows h new w in
    subst P (sym (noted_flat p o r v is)) sent
  where
    ds : Outgoing
    ds = map frame_to r.sends.items

    one : plain.World
    one = written p o v

    all : plain.World
    all = sends_all p ds one

    carried : Carries new.traffic all
    carried = sends one (record {
      frames = s.traffic.frames;
      pending = s.traffic.pending;
      bytes = s.traffic.bytes;
      within = s.traffic.within;
    })
        (players_numbers (setting_of h) old.players.items v.players s.players)

    cs : all.players ≡ v.players
    cs = sends_players p ds one

    sent : Shows h new all
    sent = record {
      rising = s.rising;
      group = same.group ∙ s.group;
      roster = same.roster ∙ s.roster;
      scheme = s.scheme ∙ ap (λ x. is_valid (scheme_of x)) (sym same.scheme);
      players = let A : List plain.Player → Type 0 = λ xs. ArePlayers (setting_of h) new.players.items xs in
          let B : List Player → Type 0 = λ ps. ArePlayers (setting_of h) ps v.players in
          subst A (sym cs) (subst B (sym same.players) s.players);
      listed = ap (map (λ (x : plain.Player). x.listed)) cs ∙ s.listed;
      ran = let A : List plain.Player → Type 0 = λ xs. AllByRecursion (IsRun h) xs in subst A (sym cs) s.ran;
      liars = let A : List plain.Sent → Type 0 = λ fs. AreLiars fs new.liars.items (corrupt_of h.processes) in
          let B : List Liar → Type 0 = λ xs. AreLiars (v.frames ++ map (sent_by p) ds) xs (corrupt_of h.processes) in
          subst A (sym (sends_frames p ds one))
          (subst B (sym same.liars) (liars_keep p v.frames ds old.liars.items (corrupt_of h.processes)
          (player_apart h old v p s among) s.liars));
      traffic = carried;
      handed = λ test.
          ap (λ xs. list_all test (handed (record { setting = setting_of h; correct = map (correct_of h) xs }))) cs
          ∙ (s.handed test ∙ ap (λ kept. list_all test (flat_map claims_of kept))
          (ap (λ fs. fs ++ old.raws.items) (sym same.frames) ∙ ap (λ rs. handed_frames new.traffic.frames.items ++ rs) (sym same.raws)));
      refused = refusal_written v old.refused.items new.refused.items old.count p r.verdict s.refused s.count refuses
          ∙ (ap (λ x. v.refused ++ plain.refused_if v p x) (sym is.verdict) ∙ sym (sends_refused p ds one));
      spent = spends
          ∙ (ap (λ b. cond b (old.spent.items ++ p ∷ []) old.spent.items) (sym is.spent)
          ∙ (ap (λ ps. cond o.spent (ps ++ p ∷ []) ps) s.spent ∙ sym (sends_spent p ds one)));
      count = same.count ∙ (s.count ∙ sym (sends_count p ds one));
    }

-- too much of it goes out
pub noted_exceeds : (h : Header) (old : World) (v : plain.World) (p : ℕ) (o : group.Outcome) (r : Outcome) (fault : WorldFault)
    → Shows h old v → IsOutcome o r
    → SendsTooMuch old.players.items old.count old.traffic (sends_all p (map frame_to r.sends.items)) fault → IsTooMuch fault (noted p o v)
noted_exceeds h old v p o r fault s is much =
    let P : plain.World → Type 0 = λ w. IsTooMuch fault w in
    let carried : Carries old.traffic
    (written p o v) = record {
      frames = s.traffic.frames;
      pending = s.traffic.pending;
      bytes = s.traffic.bytes;
      within = s.traffic.within;
    } in
    subst P (sym (noted_flat p o r v is))
    (much (written p o v) carried (players_numbers (setting_of h) old.players.items v.players s.players) s.count)

-- ---- an event that is handed over

-- the player of this number, and what it makes of the event
pub hands_placed : (h : Header) (v : plain.World) (p : ℕ) (e : group.Event) (c : plain.Player) (i : ℕ) → Rises 0 (numbers_of v.players)
    → slice_get v.players i ≡ Some c → c.listed.process ≡ p
    → find (λ x. x.listed.process == p) v.players ≡ Some c
    → plain.hands (setting_of h) v p e ≡ noted p (outcome (setting_of h) c.now (turn_of c e)) (turned_at h v i (turn_of c e) c)
hands_placed h v p e c i rises get is found =
    let s = setting_of h in
    let t : Turn = turn_of c e in
    ap (λ r. elim r as (λ (x : Option plain.Player). plain.World) [ None ↦ v | Some d ↦ plain.steps s v e d ]) found
    ∙ (ap (λ q. plain.turns_out s v q t (outcome s c.now t)) is
    ∙ ap (λ cs. fold (plain.send_all p) (record v {
      players = cs;
      refused = v.refused ++ plain.refused_if v p (outcome s c.now t).verdict;
      spent = if (outcome s c.now t).spent then v.spent ++ p ∷ [] else v.spent;
    }) (outcome s c.now t).sends) (takes_at s p t 0 v.players i c rises get is))

-- no player has this number
pub hands_absent : (h : Header) (v : plain.World) (p : ℕ) (e : group.Event) → find (λ x. x.listed.process == p) v.players ≡ None
    → plain.hands (setting_of h) v p e ≡ v
hands_absent h v p e none = ap
    (λ r. elim r as (λ (x : Option plain.Player). plain.World) [ None ↦ v | Some d ↦ plain.steps (setting_of h) v e d ]) none

or_true : (b : Bool) → (b || true) ≡ true
or_true true = refl
or_true false = refl

-- the number of a player at a place is among them
pub among_at : (cs : List plain.Player) (i p : ℕ) (c : plain.Player) → slice_get cs i ≡ Some c → c.listed.process ≡ p
    → has (numbers_of cs) p ≡ true
among_at [] i p c get is = absurd cc
among_at (d ∷ ds) zero p c get is =
    let at : d ≡ c = cc in
    let number : d.listed.process ≡ p = ap (λ (x : plain.Player). x.listed.process) at ∙ is in
    ap (λ b. b || has (numbers_of ds) p) (eq-eqb d.listed.process p number)
among_at (d ∷ ds) (suc i) p c get is = rw (among_at ds i p c get is) (or_true (d.listed.process == p))

-- ---- one event more

pub counted_shows : (h : Header) (w : World) (v : plain.World) → Shows h w v
    → Shows h (record w { count = w.count + 1 }) (record v { count = v.count + 1 })
counted_shows h w v s = record {
  rising = s.rising;
  group = s.group;
  roster = s.roster;
  scheme = s.scheme;
  players = s.players;
  listed = s.listed;
  ran = s.ran;
  liars = s.liars;
  traffic = record { frames = s.traffic.frames; pending = s.traffic.pending; bytes = s.traffic.bytes; within = s.traffic.within };
  handed = s.handed;
  refused = s.refused;
  spent = s.spent;
  count = ap (λ n. n + 1) s.count;
}
