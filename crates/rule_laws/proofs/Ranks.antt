-- Members and their ranks, and what is found first by rank.
use Rattle.std.proofs.Common.{◌≡◌, inl, inr, ℕ, zero, suc, ◌<◌, ◌≤◌, List, [], ◌∷◌, length, Option, Some, None, true, false, cond, refl, ap, ◌∙◌, arith, slice_get}
use Rattle.std.specs.Prelude.{◌==◌, is_some, option_and_then, nat_lt, slice_index_or}
use Rattle.std.specs.List.{position_or_len}
use Rattle.std.proofs.lemmas.Bool.{both_ways, eqb-true, eq-eqb, lt-ltb, cases_lt}
use Rattle.std.proofs.lemmas.List.Quantifiers.{position-Some}
use Rattle.std.proofs.lemmas.List.Sums.{fails_before_first}
use Rattle.group_defs.specs.Below.{first_some}
use Rattle.group_defs.specs.Views.{View, is_member, rank_of}
use Rattle.pool_laws.specs.Least.{IsLeastBelow}
use Rattle.pool_laws.proofs.Members.{mem-list_any}
use Rattle.pool_laws.proofs.Places.{slice_get-mem, slice_get-index, slice_get-length, index-is}

-- ---- ranks

pub rank-at : (v : View) (m r : ℕ) → rank_of v m ≡ Some r → slice_get v.members r ≡ Some m
rank-at v m r e = let at = position-Some (λ q. q == m) v.members r 0 e in slice_get-index v.members r 0 at.0 ∙ ap Some (eqb-true _ _ at.1)

pub at-rank : (v : View) (m r : ℕ) → slice_get v.members r ≡ Some m → (i : ℕ) × (rank_of v m ≡ Some i) × (i ≤ r)
at-rank v m r e = (first, ranked (lt-ltb first (length v.members) (omega (arith, far, before))), before)
  where
    first : ℕ
    first = position_or_len (λ q. q == m) v.members

    far : r < length v.members
    far = slice_get-length v.members r m e

    before : position_or_len (λ q. q == m) v.members ≤ r
    before = elim (cases_lt r (position_or_len (λ q. q == m) v.members)) [
      | inl lt ↦ absurd (both_ways _ (fails_before_first (λ q. q == m) v.members r 0 lt) (eq-eqb _ m (index-is v.members r 0 m e)))
      | inr le ↦ le
    ]

    ranked : nat_lt first (length v.members) ≡ true → rank_of v m ≡ Some first
    ranked lt = ap (λ b. cond b (Some first) None) lt

pub at-member : (v : View) (m r : ℕ) → slice_get v.members r ≡ Some m → is_member v m ≡ true
at-member v m r e = mem-list_any (λ q. q == m) v.members m (slice_get-mem v.members r m e) (eq-eqb m m refl)

-- ---- the first by rank

module _ {A B : Type 0} (f : A → Option B) (d : A) where
  first-none : (xs : List A) → ((r : ℕ) → r < length xs → is_some (f (slice_index_or xs r d)) ≡ false) → first_some f xs ≡ None
  first-none [] not = refl
  first-none (x ∷ xs) not = go (f x) (not zero (omega arith)) (first-none xs (λ r lt. not (suc r) (omega (arith, lt))))
    where
      go : (o : Option B) → is_some o ≡ false → first_some f xs ≡ None
          → (let it : Option B = elim o [ None ↦ first_some f xs | Some y ↦ Some y ] in it ≡ None)
      go None e rest = rest
      go (Some y) e rest = absurd cc

  first-at : (xs : List A) (k : ℕ) → k < length xs → ((j : ℕ) → j < k → is_some (f (slice_index_or xs j d)) ≡ false)
      → is_some (f (slice_index_or xs k d)) ≡ true → first_some f xs ≡ f (slice_index_or xs k d)
  first-at [] k lt not e = absurd (omega (arith, lt))
  first-at (x ∷ xs) zero lt not e = go (f x) e
    where
      go : (o : Option B) → is_some o ≡ true → (let it : Option B = elim o [ None ↦ first_some f xs | Some y ↦ Some y ] in it ≡ o)
      go None e = absurd cc
      go (Some y) e = refl
  first-at (x ∷ xs) (suc k) lt not e = go (f x) (not zero (omega arith))
      (first-at xs k (omega (arith, lt)) (λ j less. not (suc j) (omega (arith, less))) e)
    where
      go : (o : Option B) → is_some o ≡ false → first_some f xs ≡ f (slice_index_or xs k d)
          → (let it : Option B = elim o [ None ↦ first_some f xs | Some y ↦ Some y ] in it ≡ f (slice_index_or xs k d))
      go None e rest = rest
      go (Some y) e rest = absurd cc

  -- what is found first is found at the least rank that has an answer
  pub first-by-rank : (xs : List A) (o : Option ℕ) → IsLeastBelow (length xs) (λ r. is_some (f (slice_index_or xs r d))) o
      → first_some f xs ≡ option_and_then (λ r. f (slice_index_or xs r d)) o
  first-by-rank xs None least = first-none xs (λ r lt. least r (omega arith) lt)
  first-by-rank xs (Some k) least = first-at xs k least.1 (λ j lt. least.3 j (omega arith) lt) least.2
