-- How many pass a test.
use Rattle.std.proofs.Common.{◌≡◌, inl, inr, ℕ, suc, ◌+◌, ◌<◌, ◌≤◌, max, List, [], ◌∷◌, map, length, Option, Some, None, Bool, true, false, refl, ap, subst, arith}
use Rattle.std.specs.Prelude.{if◌then◌else◌, ◌&&◌, filter, filter_map, fold}
use Rattle.std.specs.List.{cons_option}
use Rattle.group_defs.specs.Below.{is_some_and}
use Rattle.pool_laws.proofs.Members.{Mem}

pub length-filter-le : {A : Type 0} (t u : A → Bool) (xs : List A) → ((x : A) → t x ≡ true → u x ≡ true)
    → length (filter t xs) ≤ length (filter u xs)
length-filter-le t u [] h = omega arith
length-filter-le {A} t u (x ∷ xs) h = go (t x) refl (u x) refl (length-filter-le t u xs h)
  where
    go : (b : Bool) → t x ≡ b → (c : Bool) → u x ≡ c → length (filter t xs) ≤ length (filter u xs)
        → length (if b then x ∷ filter t xs else filter t xs) ≤ length (if c then x ∷ filter u xs else filter u xs)
    go true e true f le = omega (arith, le)
    go true e false f le = absurd (let yes' = h x e in cc)
    go false e true f le = omega (arith, le)
    go false e false f le = le

pub length-filter-few : {A : Type 0} (test : A → Bool) (xs : List A) → length (filter test xs) ≤ length xs
length-filter-few test [] = omega arith
length-filter-few test (x ∷ xs) = go (test x) (length-filter-few test xs)
  where
    go : (b : Bool) → length (filter test xs) ≤ length xs → length (if b then x ∷ filter test xs else filter test xs) ≤ suc (length xs)
    go true le = omega (arith, le)
    go false le = omega (arith, le)

pub length-filter-map : {A B : Type 0} (g : A → B) (t : B → Bool) (xs : List A)
    → length (filter t (map g xs)) ≡ length (filter (λ x. t (g x)) xs)
length-filter-map g t [] = refl
length-filter-map g t (x ∷ xs) = go (t (g x)) (length-filter-map g t xs)
  where
    go : (b : Bool) → length (filter t (map g xs)) ≡ length (filter (λ x. t (g x)) xs)
        → length (if b then g x ∷ filter t (map g xs) else filter t (map g xs))
        ≡ length (if b then x ∷ filter (λ x. t (g x)) xs else filter (λ x. t (g x)) xs)
    go true e = ap suc e
    go false e = e

pub length-filter_map : {A B : Type 0} (g : A → Option B) (t : B → Bool) (xs : List A)
    → length (filter t (filter_map g xs)) ≡ length (filter (λ x. is_some_and (g x) t) xs)
length-filter_map g t [] = refl
length-filter_map {A} {B} g t (x ∷ xs) = go (g x) (length-filter_map g t xs)
  where
    pick : (b : Bool) (y : B) → length (filter t (filter_map g xs)) ≡ length (filter (λ x. is_some_and (g x) t) xs)
        → length (if b then y ∷ filter t (filter_map g xs) else filter t (filter_map g xs))
        ≡ length (if b then x ∷ filter (λ x. is_some_and (g x) t) xs else filter (λ x. is_some_and (g x) t) xs)
    pick true y e = ap suc e
    pick false y e = e

    go : (o : Option B) → length (filter t (filter_map g xs)) ≡ length (filter (λ x. is_some_and (g x) t) xs)
        → length (filter t (cons_option o (filter_map g xs)))
        ≡ length (if is_some_and o t then x ∷ filter (λ x. is_some_and (g x) t) xs else filter (λ x. is_some_and (g x) t) xs)
    go None e = e
    go (Some y) e = pick (t y) y e

pub both-count : {A : Type 0} (p q : A → Bool) (xs : List A)
    → length (filter p xs) + length (filter q xs) ≤ length xs + length (filter (λ x. p x && q x) xs)
both-count p q [] = omega arith
both-count {A} p q (x ∷ xs) = go (p x) (q x) (both-count p q xs)
  where
    go : (b c : Bool) → length (filter p xs) + length (filter q xs) ≤ length xs + length (filter (λ x. p x && q x) xs)
        → length (if b then x ∷ filter p xs else filter p xs) + length (if c then x ∷ filter q xs else filter q xs)
        ≤ suc (length xs) + length (if b && c then x ∷ filter (λ x. p x && q x) xs else filter (λ x. p x && q x) xs)
    go true true le = omega (arith, le)
    go true false le = omega (arith, le)
    go false true le = omega (arith, le)
    go false false le = omega (arith, le)

-- more pass p than q, so one passes p and not q
pub one-more : {A : Type 0} (p q : A → Bool) (xs : List A) → length (filter q xs) < length (filter p xs)
    → (x : A) × Mem x xs × (p x ≡ true) × (q x ≡ false)
one-more p q [] lt = absurd (omega (arith, lt))
one-more {A} p q (x ∷ xs) lt = go (p x) refl (q x) refl lt (one-more p q xs)
  where
    Found : List A → Type 0
    Found ys = (y : A) × Mem y ys × (p y ≡ true) × (q y ≡ false)

    go : (b : Bool) → p x ≡ b → (c : Bool) → q x ≡ c
        → length (if c then x ∷ filter q xs else filter q xs) < length (if b then x ∷ filter p xs else filter p xs)
        → (length (filter q xs) < length (filter p xs) → Found xs) → Found (x ∷ xs)
    go true e false f lt rest = (x, inl refl, e, f)
    go true e true f lt rest = let r = rest (omega (arith, lt)) in (r.0, inr r.1, r.2, r.3)
    go false e true f lt rest = let r = rest (omega (arith, lt)) in (r.0, inr r.1, r.2, r.3)
    go false e false f lt rest = let r = rest (omega (arith, lt)) in (r.0, inr r.1, r.2, r.3)

-- ---- the greatest

pub fold-max-start : {A : Type 0} (n : A → ℕ) (xs : List A) (most : ℕ) → most ≤ fold (λ most x. max most (n x)) most xs
fold-max-start n [] most = omega arith
fold-max-start n (x ∷ xs) most = let rest = fold-max-start n xs (max most (n x)) in omega (arith, rest)

pub fold-max : {A : Type 0} (n : A → ℕ) (xs : List A) (most : ℕ) (y : A) → Mem y xs → n y ≤ fold (λ most x. max most (n x)) most xs
fold-max n [] most y m = absurd m
fold-max n (x ∷ xs) most y (inl same) = subst (λ z. n z ≤ fold (λ most x. max most (n x)) (max most (n x)) xs) same
    (let rest = fold-max-start n xs (max most (n x)) in omega (arith, rest))
fold-max n (x ∷ xs) most y (inr m) = fold-max n xs (max most (n x)) y m
