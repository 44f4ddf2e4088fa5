-- Numbers that rise, and rosters of them.
use Rattle.std.proofs.Common.{◌≡◌, ℕ, ◌+◌, ◌<◌, ◌≤◌, ◌==◌, ◌||◌, Bool, true, false, cond, filter, find, List, [], ◌∷◌, ◌++◌, Some, option_map, refl, subst, arith, ⊎_elim}
use Rattle.std.specs.List.{AllByRecursion}
use Rattle.std.proofs.lemmas.Bool.{eq-eqb, eqb-true, or_cases, or_left, or_right}
use Rattle.byte_defs.specs.Members.{has}
use Rattle.kit_defs.specs.Kits.{AreKeys, key_of, roster_of}

-- from this one on
abbrev pub Rises : ℕ → List ℕ → Type 0
Rises least [] = Unit {0}
Rises least (p ∷ ps) = (least ≤ p) × Rises (p + 1) ps

pub rises_lower : (least less : ℕ) (ps : List ℕ) → less ≤ least → Rises least ps → Rises less ps
rises_lower least less [] le h = tt
rises_lower least less (p ∷ ps) le h = (omega (arith, h.0), h.1)

pub rises_above : (least : ℕ) (xs : List ℕ) (y : ℕ) (ys : List ℕ) → Rises least (xs ++ y ∷ ys) → least ≤ y
rises_above least [] y ys h = h.0
rises_above least (x ∷ xs) y ys h = omega (arith, h.0, rises_above (x + 1) xs y ys h.1)

-- each that stands before one is below it
pub rises_front : (least : ℕ) (xs : List ℕ) (y : ℕ) (ys : List ℕ) → Rises least (xs ++ y ∷ ys) → AllByRecursion (λ x. x < y) xs
rises_front least [] y ys h = tt
rises_front least (x ∷ xs) y ys h = (omega (arith, rises_above (x + 1) xs y ys h.1), rises_front (x + 1) xs y ys h.1)

pub rises_filter : (test : ℕ → Bool) (least : ℕ) (ps : List ℕ) → Rises least ps → Rises least (filter test ps)
rises_filter test least [] h = tt
rises_filter test least (p ∷ ps) h = by (test p) (rises_filter test (p + 1) ps h.1)
  where
    by : (kept : Bool) → Rises (p + 1) (filter test ps) → Rises least (cond kept (p ∷ filter test ps) (filter test ps))
    by true rest = (h.0, rest)
    by false rest = rises_lower (p + 1) least (filter test ps) (omega (arith, h.0)) rest

-- ---- rosters

pub roster_rises : (size least : ℕ) (keys : List (ℕ × List ℕ)) → AreKeys size least keys → Rises least (roster_of keys)
roster_rises size least [] are = tt
roster_rises size least (k ∷ keys) are = (are.0, roster_rises size (k.0 + 1) keys are.3)

pub roster_small : (size least : ℕ) (keys : List (ℕ × List ℕ)) → AreKeys size least keys → AllByRecursion (λ p. p ≤ 63) (roster_of keys)
roster_small size least [] are = tt
roster_small size least (k ∷ keys) are = (are.1, roster_small size (k.0 + 1) keys are.3)

-- what holds of each, holds of one of them
pub one_has : (P : ℕ → Type 0) (ps : List ℕ) (p : ℕ) → AllByRecursion P ps → has ps p ≡ true → P p
one_has P [] p each is = absurd cc
one_has P (q ∷ ps) p each is = ⊎_elim (λ same. subst P (eqb-true q p same) each.0) (λ later. one_has P ps p each.1 later)
    (or_cases (q == p) (has ps p) is)

pub one_behind : (xs : List ℕ) (y : ℕ) (ys : List ℕ) → has (xs ++ y ∷ ys) y ≡ true
one_behind [] y ys = or_left (y == y) (has ys y) (eq-eqb y y refl)
one_behind (x ∷ xs) y ys = or_right (x == y) (has (xs ++ y ∷ ys) y) (one_behind xs y ys)

-- one of those that a filter keeps passes it, and is one of all
pub one_of_filter : (test : ℕ → Bool) (ps : List ℕ) (p : ℕ) → has (filter test ps) p ≡ true → (has ps p ≡ true) × (test p ≡ true)
one_of_filter test [] p is = absurd cc
one_of_filter test (q ∷ ps) p is = by (λ e. let rest = one_of_filter test ps p e in (or_right (q == p) (has ps p) rest.0, rest.1))
    (test q) refl is
  where
    by : (has (filter test ps) p ≡ true → (has (q ∷ ps) p ≡ true) × (test p ≡ true)) → (kept : Bool) → test q ≡ kept
        → has (cond kept (q ∷ filter test ps) (filter test ps)) p ≡ true → (has (q ∷ ps) p ≡ true) × (test p ≡ true)
    by later true t is = ⊎_elim (λ same. (or_left (q == p) (has ps p) same, subst (λ r. test r ≡ true) (eqb-true q p same) t)) later
        (or_cases (q == p) (has (filter test ps) p) is)
    by later false t is = later is

-- a process with a key is of the roster
pub key_listed : (keys : List (ℕ × List ℕ)) (p : ℕ) (key : List ℕ) → key_of keys p ≡ Some key → has (roster_of keys) p ≡ true
key_listed [] p key e = absurd cc
key_listed (k ∷ keys) p key e = by (k.0 == p) e (key_listed keys p key)
  where
    by : (same : Bool) → option_map (λ r. r.1) (cond same (Some k) (find (λ r. r.0 == p) keys)) ≡ Some key
        → (key_of keys p ≡ Some key → has (roster_of keys) p ≡ true) → (same || has (roster_of keys) p) ≡ true
    by true e later = refl
    by false e later = later e
