-- Fewer than a quorum of a bounded view's members are not correct, nor of the members of a view behind it.
use Rattle.std.proofs.Common.{◌≡◌, ◌≢◌, inl, inr, ℕ, suc, ◌-◌, ◌/◌, ◌<◌, ◌≤◌, List, [], ◌∷◌, ◌++◌, length, None, Bool, true, false, refl, sym, ap, ◌∙◌, arith, length-append}
use Rattle.std.specs.Prelude.{◌==◌, if◌then◌else◌, not, filter}
use Rattle.std.proofs.lemmas.Bool.{eqb-true}
use Rattle.message_defs.specs.Updates.{Update, Remove, Add, Renew}
use Rattle.group_defs.specs.Views.{View, IsView, faulty, quorum, next_fault, next_view}
use Rattle.group_defs.proofs.FollowingViews.{next_is_view}
use Rattle.pool_laws.proofs.Members.{Mem}
use Rattle.pool_laws.proofs.Places.{Pairs, all-pairs, mem-slice_get}

-- ---- the numbers

pub bounded-few : (n c : ℕ) → 1 ≤ n → c ≤ faulty n → c < quorum n
bounded-few n c some few = let e : faulty n ≡ (n - 1) / 3 = refl in omega (arith, some, few, e)

one-added : (n m c d : ℕ) → 1 ≤ n → c ≤ (n - 1) / 3 → d ≤ suc c → m ≡ suc n → d < m - (m - 1) / 3
one-added n m c d some few le long = omega (arith, some, few, le, long)

one-removed : (n m c d : ℕ) → 1 ≤ m → c ≤ (n - 1) / 3 → d ≤ c → n ≤ suc m → d < m - (m - 1) / 3
one-removed n m c d some few le long = omega (arith, some, few, le, long)

-- ---- lists

filter-push : (t : ℕ → Bool) (xs : List ℕ) (p : ℕ) → length (filter t (xs ++ p ∷ [])) ≤ suc (length (filter t xs))
filter-push t [] p = go (t p)
  where
    go : (b : Bool) → length (if b then p ∷ [] else []) ≤ 1
    go true = omega arith
    go false = omega arith
filter-push t (x ∷ xs) p = go (t x) (filter-push t xs p)
  where
    go : (b : Bool) → length (filter t (xs ++ p ∷ [])) ≤ suc (length (filter t xs))
        → length (if b then x ∷ filter t (xs ++ p ∷ []) else filter t (xs ++ p ∷ []))
        ≤ suc (length (if b then x ∷ filter t xs else filter t xs))
    go true le = omega (arith, le)
    go false le = le

filter-filter : (t u : ℕ → Bool) (xs : List ℕ) → length (filter t (filter u xs)) ≤ length (filter t xs)
filter-filter t u [] = omega arith
filter-filter t u (x ∷ xs) = go (u x) (t x) refl (filter-filter t u xs)
  where
    go : (b c : Bool) → t x ≡ c → length (filter t (filter u xs)) ≤ length (filter t xs)
        → length (filter t (if b then x ∷ filter u xs else filter u xs)) ≤ length (if c then x ∷ filter t xs else filter t xs)
    go true true e le = let is : length (filter t (x ∷ filter u xs)) ≡ suc (length (filter t (filter u xs)))
        = ap (λ b. length (if b then x ∷ filter t (filter u xs) else filter t (filter u xs))) e in omega (arith, le, is)
    go true false e le = let is : length (filter t (x ∷ filter u xs)) ≡ length (filter t (filter u xs))
        = ap (λ b. length (if b then x ∷ filter t (filter u xs) else filter t (filter u xs))) e in omega (arith, le, is)
    go false true e le = omega (arith, le)
    go false false e le = le

keeps-all : (t : ℕ → Bool) (xs : List ℕ) → ((x : ℕ) → Mem x xs → t x ≡ true) → length (filter t xs) ≡ length xs
keeps-all t [] each = refl
keeps-all t (x ∷ xs) each = ap (λ b. length (if b then x ∷ filter t xs else filter t xs)) (each x (inl refl))
    ∙ ap suc (keeps-all t xs (λ y m. each y (inr m)))

-- of members that stand once, at most one is p
removes-one : (p : ℕ) (xs : List ℕ) → Pairs (λ m n. m ≢ n) xs → length xs ≤ suc (length (filter (λ m. not (m == p)) xs))
removes-one p [] each = omega arith
removes-one p (x ∷ xs) each = go (x == p) refl
    (removes-one p xs (λ i j a b lt at at'. each (suc i) (suc j) a b (omega (arith, lt)) at at'))
  where
    differs : x ≡ p → (y : ℕ) → Mem y xs → not (y == p) ≡ true
    differs is y m = let at = mem-slice_get xs y m in other (y == p) refl (each 0 (suc at.0) x y (omega arith) refl at.1)
      where
        other : (b : Bool) → (y == p) ≡ b → x ≢ y → not b ≡ true
        other true e apart = absurd (apart (is ∙ sym (eqb-true y p e)))
        other false e apart = refl

    go : (b : Bool) → (x == p) ≡ b → length xs ≤ suc (length (filter (λ m. not (m == p)) xs))
        → suc (length xs) ≤ suc (length (if not b then x ∷ filter (λ m. not (m == p)) xs else filter (λ m. not (m == p)) xs))
    go true e le = let all = keeps-all (λ m. not (m == p)) xs (differs (eqb-true x p e)) in omega (arith, all)
    go false e le = omega (arith, le)

-- ---- the view behind a bounded one

pub next-few : (t : ℕ → Bool) (v : View) (u : Update) → IsView v → length (filter t v.members) ≤ faulty (length v.members)
    → next_fault v u ≡ None → length (filter t (next_view v u).members) < quorum (length (next_view v u).members)
next-few t v Renew ok few none = bounded-few (length v.members) (length (filter t v.members)) ok.some few
next-few t v (Add p) ok few none = one-added (length v.members) (length (v.members ++ p ∷ [])) (length (filter t v.members))
    (length (filter t (v.members ++ p ∷ []))) ok.some few (filter-push t v.members p)
    (let long = length-append v.members (p ∷ []) in omega (arith, long))
next-few t v (Remove p) ok few none = one-removed (length v.members) (length (filter (λ m. not (m == p)) v.members))
    (length (filter t v.members)) (length (filter t (filter (λ m. not (m == p)) v.members)))
    (next_is_view v (Remove p) none ok).some few (filter-filter t (λ m. not (m == p)) v.members)
    (removes-one p v.members (all-pairs (λ m n. m ≢ n) v.members ok.distinct))
