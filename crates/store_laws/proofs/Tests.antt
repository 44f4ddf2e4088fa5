-- Tests of lists and of counts.
use Rattle.std.proofs.Common.{◌≡◌, ◌⊎◌, inl, inr, ℕ, ◌<◌, ◌≤◌, List, [], ◌∷◌, ◌++◌, length, Option, Some, None, Bool, true, false, refl, sym, ap, ◌∙◌, subst, arith}
use Rattle.std.specs.Prelude.{if◌then◌else◌, ◌&&◌, ◌||◌, ◌==◌, not, filter, count_by}
use Rattle.std.specs.List.{list_any}
use Rattle.std.proofs.lemmas.Bool.{eqb-true, eq-eqb}
use Rattle.std.proofs.lemmas.List.Sums.{length-filter}
use Rattle.byte_defs.specs.Members.{has}
use Rattle.pool_laws.proofs.Counting.{length-filter-le}
use Rattle.pool_laws.proofs.Members.{Mem, mem-list_any}

-- ---- of Bools

pub or-none : (a : Bool) → (a || false) ≡ a
or-none true = refl
or-none false = refl

pub or-assoc : (a b c : Bool) → ((a || b) || c) ≡ (a || (b || c))
or-assoc true b c = refl
or-assoc false b c = refl

pub absorbed : (a t : Bool) → (t ≡ true → a ≡ true) → a ≡ (a || t)
absorbed true t h = refl
absorbed false true h = h refl
absorbed false false h = refl

pub unless : (b : Bool) → (b ≡ true → ⊥) → b ≡ false
unless true h = absurd (h refl)
unless false h = refl

pub and-none : (a b : Bool) → b ≡ false → (a && b) ≡ false
and-none true b e = e
and-none false b e = refl

pub false-true : {b : Bool} → b ≡ false → b ≡ true → ⊥
false-true e f = cc

pub or-second : (a b : Bool) → b ≡ true → (a || b) ≡ true
or-second true b e = refl
or-second false b e = e

pub or-first : (a b : Bool) → a ≡ true → (a || b) ≡ true
or-first true b e = refl
or-first false b e = absurd cc

-- ---- of members

pub mem-has : (ms : List ℕ) (m : ℕ) → Mem m ms → has ms m ≡ true
mem-has ms m there = mem-list_any (λ q. q == m) ms m there (eq-eqb m m refl)

-- ---- of counts

pub filter-agree : {A : Type 0} (t u : A → Bool) (xs : List A) → ((x : A) → Mem x xs → t x ≡ u x) → filter t xs ≡ filter u xs
filter-agree t u [] h = refl
filter-agree {A} t u (x ∷ xs) h = go (t x) (u x) (h x (inl refl)) (filter-agree t u xs (λ y m. h y (inr m)))
  where
    go : (b c : Bool) → b ≡ c → filter t xs ≡ filter u xs → (if b then x ∷ filter t xs else filter t xs) ≡ (if c then x ∷ filter u xs else filter u xs)
    go b c is rest = λ i. if is i then x ∷ rest i else rest i

pub count-agree : (t u : ℕ → Bool) (xs : List ℕ) → ((x : ℕ) → Mem x xs → t x ≡ u x) → count_by t xs ≡ count_by u xs
count-agree t u xs h = sym (length-filter t xs) ∙ ap length (filter-agree t u xs h) ∙ length-filter u xs

pub count-le : (t u : ℕ → Bool) (xs : List ℕ) → ((x : ℕ) → t x ≡ true → u x ≡ true) → count_by t xs ≤ count_by u xs
count-le t u xs h = subst (λ n. n ≤ count_by u xs) (length-filter t xs)
    (subst (λ n. length (filter t xs) ≤ n) (length-filter u xs) (length-filter-le t u xs h))

-- some pass, where more than none do
filtered : (t : ℕ → Bool) (xs : List ℕ) (n : ℕ) → n < length (filter t xs) → (m : ℕ) × Mem m xs × (t m ≡ true)
filtered t [] n lt = absurd (omega (arith, lt))
filtered t (x ∷ xs) n lt = pick (t x) refl lt (filtered t xs n)
  where
    later : (m : ℕ) × Mem m xs × (t m ≡ true) → (m : ℕ) × Mem m (x ∷ xs) × (t m ≡ true)
    later found = (found.0, inr found.1, found.2)

    pick : (b : Bool) → t x ≡ b → n < length (if b then x ∷ filter t xs else filter t xs)
        → (n < length (filter t xs) → (m : ℕ) × Mem m xs × (t m ≡ true)) → (m : ℕ) × Mem m (x ∷ xs) × (t m ≡ true)
    pick true is lt rest = (x, inl refl, is)
    pick false is lt rest = later (rest lt)

pub some-passes : (t : ℕ → Bool) (xs : List ℕ) (n : ℕ) → n < count_by t xs → (m : ℕ) × Mem m xs × (t m ≡ true)
some-passes t xs n lt = filtered t xs n (subst (λ k. n < k) (sym (length-filter t xs)) lt)
