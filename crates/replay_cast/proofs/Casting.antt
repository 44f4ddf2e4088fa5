-- The processes of a header take part one after the other.
use Rattle.std.proofs.Common.{◌≡◌, ℕ, zero, suc, ◌+◌, ◌<◌, ◌≤◌, ◌==◌, Bool, true, false, cond, ◌||◌, List, [], ◌∷◌, ◌++◌, map, length, get_or, Some, None, refl, sym, ap, subst, ◌∙◌, arith, append_assoc, append-nil}
use Rattle.std.specs.Prelude.{All, IsSome, find, filter, option_map}
use Rattle.std.specs.List.{AllByRecursion, filter_map, cons_option}
use Rattle.std.proofs.lemmas.Bool.{eq-eqb}
use Rattle.std.proofs.lemmas.List.Kept.{AllPairs-cons}
use Rattle.rp_base.specs.Rosters.{IsRising}
use Rattle.group_defs.specs.Process.{Setting}
use Rattle.replay_defs.specs.declared.Scheme.{Scheme}
use Rattle.replay_defs.specs.Signers.{key_public}
use Rattle.replay_defs.specs.Schedules.{Listed, Header, AreListed}
use Rattle.replay_defs.specs.Worlds as plain
use Rattle.replay_defs.specs.Worlds.{setting_of, begins}
use Rattle.replay_cast.specs.declared.keyed.Keyed.{Keyed}
use Rattle.replay_cast.specs.declared.player.Player.{Player}
use Rattle.replay_cast.specs.declared.liar.Liar.{Liar}
use Rattle.replay_cast.specs.declared.cast.Cast.{Cast}
use Rattle.replay_cast.specs.Players.{Plays, ArePlayers}
use Rattle.replay_cast.specs.Liars.{Lies, AreLiars}
use Rattle.replay_cast.specs.Keyed.{IsKeyed, AreKeyed, key_of}
use Rattle.replay_cast.specs.Starts.{Starts, starting}
use Rattle.replay_cast.specs.Casts.{IsEmpty, TakePart, Adds, AllTakePart}

-- ---- the roster

-- a process and its public key
abbrev pub listed_key : Listed → ℕ × List ℕ
listed_key l = (l.process, key_public l.key)

-- the keys of the signers are those of the processes
pub keys_listed : (ls : List Listed) (ks : List Keyed) → AreKeyed ls ks → map key_of ks ≡ map listed_key ls
keys_listed [] [] h = refl
keys_listed (l ∷ ls) (k ∷ ks) h =
    (λ i. (h.0.process i, h.0.signer.public i) ∷ map key_of ks) ∙ ap (λ keys. listed_key l ∷ keys) (keys_listed ls ks h.1)
keys_listed [] (k ∷ ks) h = absurd h
keys_listed (l ∷ ls) [] h = absurd h

-- of the first and of all behind it
all_first : {X : Type 0} (P : X → Type 0) (x : X) (xs : List X) → P x → All P xs → All P (x ∷ xs)
all_first {X} P x xs here behind = at
  where
    at : (k : ℕ) (d : X) → k < length (x ∷ xs) → P (get_or (x ∷ xs) k d)
    at zero d low = here
    at (suc k) d low = behind k d (omega arith)

all_from : (sch : Scheme) (least : ℕ) (ls : List Listed) → AreListed sch least ls → All (λ k. least ≤ k.0) (map listed_key ls)
all_from sch least [] h = λ k d low. absurd (omega arith)
all_from sch least (l ∷ ls) h = all_first (λ k. least ≤ k.0) (listed_key l)
    (map listed_key ls) h.0 (λ k d low. omega (arith, h.0, all_from sch (l.process + 1) ls h.3 k d low))

all_above : (p : ℕ) (key : List ℕ) (keys : List (ℕ × List ℕ)) → All (λ k. p + 1 ≤ k.0) keys → All (λ k. p < k.0) keys
all_above p key keys h = λ k d low. omega (arith, h k d low)

-- the numbers of a roster rise
pub roster_rises : (sch : Scheme) (least : ℕ) (ls : List Listed) → AreListed sch least ls → IsRising (map listed_key ls)
roster_rises sch least [] h = λ i j d below low. absurd (omega arith)
roster_rises sch least (l ∷ ls) h =
    AllPairs-cons (λ (k : ℕ × List ℕ) (m : ℕ × List ℕ). k.0 < m.0) (listed_key l) (map listed_key ls)
    (all_above l.process (key_public l.key) (map listed_key ls) (all_from sch (l.process + 1) ls h.3))
    (roster_rises sch (l.process + 1) ls h.3)

-- ---- one process more

filter_more : (test : Listed → Bool) (ls : List Listed) (l : Listed)
    → filter test (ls ++ l ∷ []) ≡ filter test ls ++ cond (test l) (l ∷ []) []
filter_more test [] l = refl
filter_more test (x ∷ xs) l = by_test (test x) (filter_more test xs l)
  where
    by_test : (b : Bool) → filter test (xs ++ l ∷ []) ≡ filter test xs ++ cond (test l) (l ∷ []) []
        → cond b (x ∷ filter test (xs ++ l ∷ [])) (filter test (xs ++ l ∷ [])) ≡ cond b (x ∷ filter test xs) (filter test xs)
        ++ cond (test l) (l ∷ []) []
    by_test true rest = ap (λ ys. x ∷ ys) rest
    by_test false rest = rest

players_more : (h : Header) (ls : List Listed) (l : Listed) (b : Bool) → l.corrupt ≡ b
    → filter_map (begins h) (ls ++ l ∷ []) ≡ filter_map (begins h) ls ++ cond b [] (starting h l ∷ [])
players_more h [] l true e = ap (λ b. cons_option (cond b None (Some (starting h l))) []) e
players_more h [] l false e = ap (λ b. cons_option (cond b None (Some (starting h l))) []) e
players_more h (x ∷ xs) l b e = by_test x.corrupt (players_more h xs l b e)
  where
    by_test : (c : Bool) → filter_map (begins h) (xs ++ l ∷ []) ≡ filter_map (begins h) xs ++ cond b [] (starting h l ∷ [])
        → cons_option (cond c None (Some (starting h x))) (filter_map (begins h) (xs ++ l ∷ []))
        ≡ cons_option (cond c None (Some (starting h x))) (filter_map (begins h) xs) ++ cond b [] (starting h l ∷ [])
    by_test true rest = rest
    by_test false rest = ap (λ ys. starting h x ∷ ys) rest

players_push : (s : Setting) (ps : List Player) (cs : List plain.Player) (p : Player) (c : plain.Player) → ArePlayers s ps cs → Plays s p c
    → ArePlayers s (ps ++ p ∷ []) (cs ++ c ∷ [])
players_push s [] [] p c all one = (one, tt)
players_push s (x ∷ ps) (y ∷ cs) p c all one = (all.0, players_push s ps cs p c all.1 one)
players_push s [] (y ∷ cs) p c all one = absurd all
players_push s (x ∷ ps) [] p c all one = absurd all

liars_push : (xs : List Liar) (ls : List Listed) (x : Liar) (l : Listed) → AreLiars [] xs ls → Lies [] x l
    → AreLiars [] (xs ++ x ∷ []) (ls ++ l ∷ [])
liars_push [] [] x l all one = (one, tt)
liars_push (y ∷ xs) (z ∷ ls) x l all one = (all.0, liars_push xs ls x l all.1 one)
liars_push [] (z ∷ ls) x l all one = absurd all
liars_push (y ∷ xs) [] x l all one = absurd all

-- a corrupt process takes part as a liar
pub adds_liar : (h : Header) (k : Keyed) (old new : Cast) → k.corrupt ≡ true → new.players.items ≡ old.players.items
    → new.liars.items ≡ old.liars.items ++ record { process = k.process; signer = k.signer } ∷ [] → Adds h k old new
adds_liar h k old new corrupt players liars = λ ls l keyed part.
    let is : l.corrupt ≡ true = sym keyed.corrupt ∙ corrupt in
    let all : filter (λ x. x.corrupt) (ls ++ l ∷ []) ≡ filter (λ x. x.corrupt) ls ++ l ∷ [] =
    filter_more (λ x. x.corrupt) ls l ∙ ap (λ b. filter (λ x. x.corrupt) ls ++ cond b (l ∷ []) []) is in
    let cs : filter_map (begins h) (ls ++ l ∷ [])
    ≡ filter_map (begins h) ls = players_more h ls l true is ∙ append-nil (filter_map (begins h) ls) in
    let lies : Lies [] (record { process = k.process; signer = k.signer }) l = record {
      process = keyed.process;
      used = keyed.signer.unused;
      total = keyed.signer.total;
      signs = keyed.signer.signs;
    } in
    let P : List plain.Player → Type 0 = λ xs. ArePlayers (setting_of h) new.players.items xs in
    let Q : List Player → Type 0 = λ ps. ArePlayers (setting_of h) ps (filter_map (begins h) ls) in
    let R : List Listed → Type 0 = λ xs. AreLiars [] new.liars.items xs in
    let S : List Liar → Type 0 = λ xs. AreLiars [] xs (filter (λ x. x.corrupt) ls ++ l ∷ []) in
    record {
      players = subst P (sym cs) (subst Q (sym players) part.players);
      liars = subst R (sym all) (subst S (sym liars) (liars_push old.liars.items (filter (λ x. x.corrupt) ls) _ l part.liars lies));
    }

-- a correct one as a player
pub adds_player : (h : Header) (k : Keyed) (p : Player) (old new : Cast) → k.corrupt ≡ false → Starts h k p
    → new.players.items ≡ old.players.items ++ p ∷ []
    → new.liars.items ≡ old.liars.items → Adds h k old new
adds_player h k p old new correct starts players liars = λ ls l keyed part.
    let is : l.corrupt ≡ false = sym keyed.corrupt ∙ correct in
    let all : filter (λ x. x.corrupt) (ls ++ l ∷ []) ≡ filter (λ x. x.corrupt) ls =
    filter_more (λ x. x.corrupt) ls l ∙
    (ap (λ b. filter (λ x. x.corrupt) ls ++ cond b (l ∷ []) []) is ∙ append-nil (filter (λ x. x.corrupt) ls)) in
    let cs : filter_map (begins h) (ls ++ l ∷ []) ≡ filter_map (begins h) ls ++ starting h l ∷ [] = players_more h ls l false is in
    let P : List plain.Player → Type 0 = λ xs. ArePlayers (setting_of h) new.players.items xs in
    let Q : List Player → Type 0 = λ ps. ArePlayers (setting_of h) ps (filter_map (begins h) ls ++ starting h l ∷ []) in
    let R : List Listed → Type 0 = λ xs. AreLiars [] new.liars.items xs in
    let S : List Liar → Type 0 = λ xs. AreLiars [] xs (filter (λ x. x.corrupt) ls) in
    record {
      players = subst P (sym cs) (subst Q (sym players)
          (players_push (setting_of h) old.players.items (filter_map (begins h) ls) p (starting h l) part.players (starts l keyed)));
      liars = subst R (sym all) (subst S (sym liars) part.liars);
    }

-- ---- all of them

-- those that are done take part, and those that are left have these signers
pub record Underway (h : Header) (c : Cast) (left : List Keyed) : Type 0 where
  pub done : List Listed
  pub rest : List Listed
  pub all : done ++ rest ≡ h.processes
  pub part : TakePart h done c
  pub keyed : AreKeyed rest left

pub cast_begins : (h : Header) (c : Cast) (all : List Keyed) → IsEmpty c → AreKeyed h.processes all → Underway h c all
cast_begins h c all empty keyed =
    let P : List Player → Type 0 = λ ps. ArePlayers (setting_of h) ps [] in
    let Q : List Liar → Type 0 = λ xs. AreLiars [] xs [] in
    record {
      done = [];
      rest = h.processes;
      all = refl;
      part = record { players = subst P (sym empty.players) tt; liars = subst Q (sym empty.liars) tt };
      keyed = keyed;
    }

-- the next one, with what holds of it
pub record Next (h : Header) (c : Cast) (k : Keyed) (left : List Keyed) : Type 0 where
  pub done : List Listed
  pub listed : Listed
  pub rest : List Listed
  pub all : done ++ listed ∷ rest ≡ h.processes
  pub part : TakePart h done c
  pub is : IsKeyed listed k
  pub keyed : AreKeyed rest left

pub next_of : (h : Header) (c : Cast) (k : Keyed) (left : List Keyed) → Underway h c (k ∷ left) → Next h c k left
next_of h c k left u = by_rest u.rest u.all u.keyed
  where
    by_rest : (rest : List Listed) → u.done ++ rest ≡ h.processes → AreKeyed rest (k ∷ left) → Next h c k left
    by_rest [] all keyed = absurd keyed
    by_rest (l ∷ rest) all keyed = record {
      done = u.done;
      listed = l;
      rest = rest;
      all = all;
      part = u.part;
      is = keyed.0;
      keyed = keyed.1;
    }

pub cast_on : (h : Header) (old new : Cast) (k : Keyed) (left : List Keyed) → Next h old k left → Adds h k old new → Underway h new left
cast_on h old new k left n adds = record {
  done = n.done ++ n.listed ∷ [];
  rest = n.rest;
  all = append_assoc n.done (n.listed ∷ []) n.rest ∙ n.all;
  part = adds n.done n.listed n.is n.part;
  keyed = n.keyed;
}

pub cast_ends : (h : Header) (c : Cast) → Underway h c [] → AllTakePart h c
cast_ends h c u = by_rest u.rest u.all u.keyed
  where
    by_rest : (rest : List Listed) → u.done ++ rest ≡ h.processes → AreKeyed rest [] → TakePart h h.processes c
    by_rest [] all keyed = let P : List Listed → Type 0 = λ ls. TakePart h ls c in subst P (sym (append-nil u.done) ∙ all) u.part
    by_rest (l ∷ rest) all keyed = absurd keyed
