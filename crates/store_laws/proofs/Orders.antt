-- Keys in byte order: of two different ones, one is below the other.
use Rattle.std.proofs.Common.{◌≡◌, ◌⊎◌, inl, inr, ℕ, ◌<◌, ◌≤◌, List, [], ◌∷◌, length, Bool, true, false, refl, sym, ap, ◌∙◌, subst, arith}
use Rattle.std.specs.Prelude.{◌&&◌, ◌||◌, ◌==◌, nat_lt}
use Rattle.std.proofs.lemmas.Bool.{eqb-true, eq-eqb, ltb-true, ltb-false, lt-ltb}
use Rattle.byte_defs.specs.Orders.{numbers_below}
use Rattle.pool_laws.proofs.Tests.{and-first, and-second, both-true, neither, or-cases}
use Rattle.store_laws.proofs.Tests.{false-true, or-first, or-second, unless}

pub below-below : (a b c : List ℕ) → numbers_below a b ≡ true → numbers_below b c ≡ true → numbers_below a c ≡ true
below-below [] [] c e f = absurd cc
below-below [] (m ∷ ms) [] e f = absurd cc
below-below [] (m ∷ ms) (n ∷ ns) e f = refl
below-below (l ∷ ls) [] c e f = absurd cc
below-below (l ∷ ls) (m ∷ ms) [] e f = absurd cc
below-below (l ∷ ls) (m ∷ ms) (n ∷ ns) e f = go (or-cases (nat_lt l m) ((l == m) && numbers_below ls ms) e)
    (or-cases (nat_lt m n) ((m == n) && numbers_below ms ns) f) (below-below ls ms ns)
  where
    lower : l < n → (nat_lt l n || ((l == n) && numbers_below ls ns)) ≡ true
    lower lt = or-first (nat_lt l n) _ (lt-ltb l n lt)

    go : (nat_lt l m ≡ true) ⊎ (((l == m) && numbers_below ls ms) ≡ true) → (nat_lt m n ≡ true) ⊎ (((m == n) && numbers_below ms ns) ≡ true)
        → (numbers_below ls ms ≡ true → numbers_below ms ns ≡ true → numbers_below ls ns ≡ true)
        → (nat_lt l n || ((l == n) && numbers_below ls ns)) ≡ true
    go (inl lm) (inl mn) rest = let a = ltb-true l m lm in let b = ltb-true m n mn in lower (omega (arith, a, b))
    go (inl lm) (inr mn) rest = let a = ltb-true l m lm in let b = eqb-true m n (and-first (m == n) _ mn) in lower (omega (arith, a, b))
    go (inr lm) (inl mn) rest = let a = eqb-true l m (and-first (l == m) _ lm) in let b = ltb-true m n mn in lower (omega (arith, a, b))
    go (inr lm) (inr mn) rest =
        let a = eqb-true l m (and-first (l == m) _ lm) in
        let b = eqb-true m n (and-first (m == n) _ mn) in
        or-second (nat_lt l n) _ (both-true (l == n) _ (eq-eqb l n (omega (arith, a, b)))
        (rest (and-second (l == m) _ lm) (and-second (m == n) _ mn)))

pub not-below-itself : (a : List ℕ) → numbers_below a a ≡ true → ⊥
not-below-itself [] e = cc
not-below-itself (n ∷ ns) e = go (or-cases (nat_lt n n) ((n == n) && numbers_below ns ns) e) (not-below-itself ns)
  where
    go : (nat_lt n n ≡ true) ⊎ (((n == n) && numbers_below ns ns) ≡ true) → (numbers_below ns ns ≡ true → ⊥) → ⊥
    go (inl lt) rest = let a = ltb-true n n lt in omega (arith, a)
    go (inr later) rest = rest (and-second (n == n) _ later)

-- of two different lists one is below the other
pub above : (a b : List ℕ) → numbers_below a b ≡ false → (a ≡ b → ⊥) → numbers_below b a ≡ true
above [] [] e differ = absurd (differ refl)
above [] (n ∷ ns) e differ = absurd cc
above (m ∷ ms) [] e differ = refl
above (m ∷ ms) (n ∷ ns) e differ = go (nat_lt n m) refl (above ms ns)
  where
    not_lower : n ≤ m
    not_lower = ltb-false m n (neither (nat_lt m n) ((m == n) && numbers_below ms ns) e).0

    go : (b : Bool) → nat_lt n m ≡ b → (numbers_below ms ns ≡ false → (ms ≡ ns → ⊥) → numbers_below ns ms ≡ true)
        → (nat_lt n m || ((n == m) && numbers_below ns ms)) ≡ true
    go true lt rest = or-first (nat_lt n m) _ lt
    go false le rest =
        let same : n ≡ m = (let a = ltb-false n m le in let b = not_lower in omega (arith, a, b)) in
        let tails : numbers_below ms ns ≡ false = unless (numbers_below ms ns) (λ t.
        false-true (neither (nat_lt m n) ((m == n) && numbers_below ms ns) e).1 (both-true (m == n) _ (eq-eqb m n (sym same)) t)) in
        or-second (nat_lt n m) _ (both-true (n == m) _ (eq-eqb n m same) (rest tails (λ is. differ (λ i. sym same i ∷ is i))))
