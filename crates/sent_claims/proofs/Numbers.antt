-- Lists of numbers compared, number by number.
use Rattle.std.proofs.Common.{◌≡◌, ◌⊎◌, inl, inr, ℕ, suc, ◌+◌, ◌-◌, ◌<◌, ◌≤◌, min, List, [], ◌∷◌, length, drop, get_or, Bool, true, false, refl, sym, ap, ◌∙◌, arith}
use Rattle.std.specs.Prelude.{◌&&◌, ◌||◌, ◌==◌, nat_lt}
use Rattle.std.proofs.lemmas.Bool.{eqb-true, eqb-false, ltb-true, ltb-false}
use Rattle.std.proofs.lemmas.List.{length-drop}
use Rattle.byte_defs.specs.Orders.{numbers_below}
use Rattle.sent_claims.proofs.Walks.{drop-number}

-- the test says what holds
test-lt : (m n : ℕ) → m < n → nat_lt m n ≡ true
test-lt m n lt = go (nat_lt m n) refl
  where
    go : (b : Bool) → nat_lt m n ≡ b → b ≡ true
    go true e = refl
    go false e = absurd (let ge = ltb-false m n e in omega (arith, ge, lt))

test-ge : (m n : ℕ) → n ≤ m → nat_lt m n ≡ false
test-ge m n le = go (nat_lt m n) refl
  where
    go : (b : Bool) → nat_lt m n ≡ b → b ≡ false
    go true e = absurd (let lt = ltb-true m n e in omega (arith, lt, le))
    go false e = refl

-- equal numbers decide nothing
below-same : (m n : ℕ) (ms ns : List ℕ) → m ≡ n → numbers_below (m ∷ ms) (n ∷ ns) ≡ numbers_below ms ns
below-same m n ms ns same = ap (λ b. b || ((m == n) && numbers_below ms ns)) (test-ge m n (omega (arith, same))) ∙ go (m == n) refl
  where
    go : (b : Bool) → (m == n) ≡ b → (b && numbers_below ms ns) ≡ numbers_below ms ns
    go true e = refl
    go false e = absurd (eqb-false m n e same)

-- the first that differ decide
below-first : (m n : ℕ) (ms ns : List ℕ) → (m ≡ n → ⊥) → numbers_below (m ∷ ms) (n ∷ ns) ≡ nat_lt m n
below-first m n ms ns differ = go (m == n) refl
  where
    over : (b : Bool) → (b || false) ≡ b
    over true = refl
    over false = refl

    go : (b : Bool) → (m == n) ≡ b → (nat_lt m n || (b && numbers_below ms ns)) ≡ nat_lt m n
    go true e = absurd (differ (eqb-true m n e))
    go false e = over (nat_lt m n)

-- where one of them ends, the other one's length decides
below-end : (ms ns : List ℕ) → (length ms ≡ 0) ⊎ (length ns ≡ 0) → numbers_below ms ns ≡ nat_lt (length ms) (length ns)
below-end [] [] e = refl
below-end [] (n ∷ ns) e = sym (test-lt 0 (suc (length ns)) (omega arith))
below-end (m ∷ ms) [] e = sym (test-ge (suc (length ms)) 0 (omega arith))
below-end (m ∷ ms) (n ∷ ns) (inl e) = absurd (omega (arith, e))
below-end (m ∷ ms) (n ∷ ns) (inr e) = absurd (omega (arith, e))

less-both : (m n k : ℕ) → k ≤ m → k ≤ n → nat_lt (m - k) (n - k) ≡ nat_lt m n
less-both m n k a b = go (nat_lt m n) refl
  where
    go : (t : Bool) → nat_lt m n ≡ t → nat_lt (m - k) (n - k) ≡ t
    go true e = test-lt (m - k) (n - k) (let lt = ltb-true m n e in omega (arith, lt, a, b))
    go false e = test-ge (m - k) (n - k) (let ge = ltb-false m n e in omega (arith, ge, a, b))

module _ (a b : List ℕ) (i : ℕ) where
  -- at place i they are equal
  pub on-same : i < length a → i < length b → get_or a i 0 ≡ get_or b i 0
      → numbers_below (drop i a) (drop i b) ≡ numbers_below (drop (i + 1) a) (drop (i + 1) b)
  on-same la lb same = (λ j. numbers_below (drop-number a i la j) (drop-number b i lb j)) ∙ below-same (get_or a i 0) (get_or b i 0)
      (drop (i + 1) a) (drop (i + 1) b) same

  -- they differ there
  pub on-first : i < length a → i < length b → (get_or a i 0 ≡ get_or b i 0 → ⊥)
      → numbers_below (drop i a) (drop i b) ≡ nat_lt (get_or a i 0) (get_or b i 0)
  on-first la lb differ = (λ j. numbers_below (drop-number a i la j) (drop-number b i lb j)) ∙ below-first (get_or a i 0) (get_or b i 0)
      (drop (i + 1) a) (drop (i + 1) b) differ

  -- one of them ends there
  pub on-end : i ≤ length a → i ≤ length b → min (length a) (length b) ≤ i
      → numbers_below (drop i a) (drop i b) ≡ nat_lt (length a) (length b)
  on-end la lb past =
      let da = length-drop i a in
      let db = length-drop i b in
      below-end (drop i a) (drop i b) (go (nat_lt (length a) (length b)) refl da db) ∙ (λ j. nat_lt (da j) (db j)) ∙ less-both (length a)
      (length b) i la lb
    where
      go : (t : Bool) → nat_lt (length a) (length b) ≡ t → length (drop i a) ≡ length a - i → length (drop i b) ≡ length b - i
          → (length (drop i a) ≡ 0) ⊎ (length (drop i b) ≡ 0)
      go true e da db = inl (let lt = ltb-true (length a) (length b) e in omega (arith, lt, da, past))
      go false e da db = inr (let ge = ltb-false (length a) (length b) e in omega (arith, ge, db, past))
