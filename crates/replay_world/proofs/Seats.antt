-- Players by their place: the code finds a player where the definitions do.
use Rattle.std.proofs.Common.{◌≡◌, ◌≢◌, ℕ, zero, suc, ◌+◌, ◌<◌, ◌≤◌, ◌==◌, Bool, true, false, cond, List, [], ◌∷◌, map, Option, Some, None, refl, sym, ap, subst, ◌∙◌, arith}
use Rattle.std.specs.Prelude.{find, filter, MatchOption, slice_get, slice_set}
use Rattle.std.specs.List.{position_from}
use Rattle.std.proofs.lemmas.Bool.{eqb-true, eq-eqb, ne_eqb}
use Rattle.group_defs.specs.Process.{Setting}
use Rattle.group_defs.specs.Events.{Turn}
use Rattle.replay_defs.specs.declared.Scheme.{Scheme}
use Rattle.replay_defs.specs.Schedules.{Listed, AreListed}
use Rattle.replay_defs.specs.Worlds as plain
use Rattle.replay_defs.specs.Worlds.{takes, with_turn}
use Rattle.replay_cast.specs.Players.{ArePlayers}
use Rattle.replay_cast.specs.declared.player.Player.{Player}

-- ---- the place of a player

-- the test that finds a player
abbrev pub is_process : ℕ → plain.Player → Bool
is_process p c = c.listed.process == p

-- counted from n, the place i is that of the player that is found
pub record PlacedAt (p : ℕ) (cs : List plain.Player) (n i : ℕ) : Type 0 where
  pub at : plain.Player
  pub place : ℕ
  pub counted : i ≡ n + place
  pub get : slice_get cs place ≡ Some at
  pub is : at.listed.process ≡ p
  pub found : find (is_process p) cs ≡ Some at

-- where the code finds one, so do the definitions
abbrev pub FindsAlike : ℕ → List plain.Player → ℕ → Option ℕ → Type 0
FindsAlike p cs n r = MatchOption r (find (is_process p) cs ≡ None) (PlacedAt p cs n)

finds_first : (p n : ℕ) (c : plain.Player) (cs : List plain.Player) (b : Bool) → is_process p c ≡ b → (r : Option ℕ)
    → FindsAlike p cs (n + 1) r → FindsAlike p (c ∷ cs) n (cond b (Some n) r)
finds_first p n c cs true e r h = record {
  at = c;
  place = 0;
  counted = omega arith;
  get = refl;
  is = eqb-true c.listed.process p e;
  found = ap (λ b. cond b (Some c) (find (is_process p) cs)) e;
}
finds_first p n c cs false e None h = ap (λ b. cond b (Some c) (find (is_process p) cs)) e ∙ h
finds_first p n c cs false e (Some i) h = record {
  at = h.at;
  place = suc h.place;
  counted = omega (arith, h.counted);
  get = h.get;
  is = h.is;
  found = ap (λ b. cond b (Some c) (find (is_process p) cs)) e ∙ h.found;
}

pub finds_alike : (s : Setting) (p n : ℕ) (ps : List Player) (cs : List plain.Player) → ArePlayers s ps cs
    → FindsAlike p cs n (position_from (λ q. q.process == p) n ps)
finds_alike s p n [] [] all = refl
finds_alike s p n (q ∷ qs) (c ∷ cs) all =
    let P : Bool → Type 0 = λ b. FindsAlike p (c ∷ cs) n (cond b (Some n) (position_from (λ x. x.process == p) (n + 1) qs)) in
    let first = finds_first p n c cs (c.listed.process == p) refl (position_from (λ x. x.process == p) (n + 1) qs)
    (finds_alike s p (n + 1) qs cs all.1) in
    subst P (sym (ap (λ x. x == p) all.0.process)) first
finds_alike s p n [] (c ∷ cs) all = absurd all
finds_alike s p n (q ∷ qs) [] all = absurd all

-- ---- rising numbers

-- each number is above the one before it, from the least on
abbrev pub Rises : ℕ → List ℕ → Type 0
Rises least [] = Unit {0}
Rises least (p ∷ ps) = (least ≤ p) × Rises (p + 1) ps

pub rises_from_less : (a b : ℕ) (ps : List ℕ) → a ≤ b → Rises b ps → Rises a ps
rises_from_less a b [] le h = tt
rises_from_less a b (p ∷ ps) le h = (omega (arith, h.0), h.1)

listed_first : (least : ℕ) (test : Listed → Bool) (l : Listed) (ls : List Listed) (b : Bool) → test l ≡ b → least ≤ l.process
    → Rises (l.process + 1) (map (λ x. x.process) (filter test ls))
    → Rises least (map (λ x. x.process) (cond b (l ∷ filter test ls) (filter test ls)))
listed_first least test l ls true e low rest = (low, rest)
listed_first least test l ls false e low rest = rises_from_less least (l.process + 1) (map (λ x. x.process) (filter test ls))
    (omega arith) rest

-- the numbers of those that pass a test rise
pub listed_rise : (sch : Scheme) (least : ℕ) (test : Listed → Bool) (ls : List Listed) → AreListed sch least ls
    → Rises least (map (λ l. l.process) (filter test ls))
listed_rise sch least test [] h = tt
listed_rise sch least test (l ∷ ls) h = listed_first least test l ls (test l) refl h.0 (listed_rise sch (l.process + 1) test ls h.3)

-- the numbers of players
abbrev pub numbers_of : List plain.Player → List ℕ
numbers_of cs = map (λ c. c.listed.process) cs

-- are those of the processes that they are
pub numbers_listed : (cs : List plain.Player) → numbers_of cs ≡ map (λ l. l.process) (map (λ c. c.listed) cs)
numbers_listed [] = refl
numbers_listed (c ∷ cs) = ap (λ ps. c.listed.process ∷ ps) (numbers_listed cs)

-- ---- one turn more

-- a player of a number below all does not take part
takes_nothing : (s : Setting) (p : ℕ) (t : Turn) (least : ℕ) (cs : List plain.Player) → p < least → Rises least (numbers_of cs)
    → map (takes s p t) cs ≡ cs
takes_nothing s p t least [] low h = refl
takes_nothing s p t least (c ∷ cs) low h =
    let other : c.listed.process ≢ p = omega (arith, h.0) in
    let kept : takes s p t c ≡ c = ap (λ b. cond b (with_turn s t c) c) (ne_eqb c.listed.process p other) in
    ap (λ x. x ∷ map (takes s p t) cs) kept ∙ ap (λ xs. c ∷ xs) (takes_nothing s p t (c.listed.process + 1) cs (omega (arith, h.0)) h.1)

-- a number at a place is not below the least
rises_at : (least : ℕ) (cs : List plain.Player) (i : ℕ) (c : plain.Player) → Rises least (numbers_of cs) → slice_get cs i ≡ Some c
    → least ≤ c.listed.process
rises_at least [] i c h get = absurd cc
rises_at least (d ∷ ds) zero c h get = let same : d ≡ c = cc in omega (arith, h.0, ap (λ (x : plain.Player). x.listed.process) same)
rises_at least (d ∷ ds) (suc i) c h get = omega (arith, h.0, rises_at (d.listed.process + 1) ds i c h.1 get)

-- the player at a place takes the turn, and no other does
pub takes_at : (s : Setting) (p : ℕ) (t : Turn) (least : ℕ) (cs : List plain.Player) (i : ℕ) (c : plain.Player)
    → Rises least (numbers_of cs) → slice_get cs i ≡ Some c → c.listed.process ≡ p
    → map (takes s p t) cs ≡ slice_set cs i (with_turn s t c)
takes_at s p t least [] i c h get is = absurd cc
takes_at s p t least (d ∷ ds) zero c h get is =
    let same : d ≡ c = cc in
    let number : d.listed.process ≡ p = ap (λ (x : plain.Player). x.listed.process) same ∙ is in
    let turned : takes s p t d ≡ with_turn s t d = ap (λ b. cond b (with_turn s t d) d) (eq-eqb d.listed.process p number) in
    ap (λ x. x ∷ map (takes s p t) ds) (turned ∙ ap (with_turn s t) same)
    ∙ ap (λ xs. with_turn s t c ∷ xs) (takes_nothing s p t (d.listed.process + 1) ds (omega (arith, number)) h.1)
takes_at s p t least (d ∷ ds) (suc i) c h get is =
    let above : d.listed.process + 1 ≤ c.listed.process = rises_at (d.listed.process + 1) ds i c h.1 get in
    let other : d.listed.process ≢ p = omega (arith, above, is) in
    let kept : takes s p t d ≡ d = ap (λ b. cond b (with_turn s t d) d) (ne_eqb d.listed.process p other) in
    ap (λ x. x ∷ map (takes s p t) ds) kept ∙ ap (λ xs. d ∷ xs) (takes_at s p t (d.listed.process + 1) ds i c h.1 get is)
