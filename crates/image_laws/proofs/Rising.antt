-- A sorted list of different numbers rises.
use Rattle.std.proofs.Common.{◌≡◌, ◌≢◌, ℕ, zero, suc, ◌+◌, ◌<◌, ◌≤◌, List, [], ◌∷◌, take, Bool, true, false, refl, sym, ◌∙◌, subst, arith, inl, inr}
use Rattle.std.specs.Prelude.{if◌then◌else◌, filter, AllPairs, slice_index}
use Rattle.std.specs.List.Sorted.{IsStrictlyIncreasing}
use Rattle.std.proofs.lemmas.Bool.{ltb-true, ltb-false}
use Rattle.byte_defs.specs.Orders.{numbers_below, put, sorted}
use Rattle.pool_laws.proofs.Members.{Mem, filter-mem}
use Rattle.pool_laws.proofs.Places.{Pairs, all-pairs, mem-slice_get}
use Rattle.pool_laws.proofs.Sorting.{by_number, below-by_number, mem-put, mem-sorted}

-- each number is below all those after it
abbrev pub Up : List ℕ → Type 0
Up [] = Unit {0}
Up (x ∷ xs) = ((y : ℕ) → Mem y xs → x < y) × Up xs

-- no number comes again
abbrev pub Apart : List ℕ → Type 0
Apart [] = Unit {0}
Apart (x ∷ xs) = (Mem x xs → ⊥) × Apart xs

put-up : (a : ℕ) (xs : List ℕ) → Up xs → (Mem a xs → ⊥) → Up (put by_number a xs)
put-up a [] up new = ((λ y m. absurd m), tt)
put-up a (x ∷ xs) up new = go (numbers_below (by_number a) (by_number x)) refl (put-up a xs up.1 (λ m. new (inr m)))
  where
    go : (b : Bool) → numbers_below (by_number a) (by_number x) ≡ b → Up (put by_number a xs)
        → Up (if b then a ∷ x ∷ xs else x ∷ put by_number a xs)
    go true e rest =
        let below = ltb-true a x (sym (below-by_number a x) ∙ e) in (
          (λ y m. elim m [ inl is ↦ subst (λ z. a < z) is below | inr there ↦ (let above = up.0 y there in omega (arith, below, above)) ]),
          up,
        )
    go false e rest =
        let le = ltb-false a x (sym (below-by_number a x) ∙ e) in (
          (λ y m. elim (mem-put by_number a xs y m) [
            | inl is ↦ apart-less x y (subst (λ z. x ≤ z) is le) (λ same. new (inl (sym (is ∙ sym same))))
            | inr there ↦ up.0 y there
          ]),
          rest,
        )
      where
        apart-less : (m n : ℕ) → m ≤ n → (m ≡ n → ⊥) → m < n
        apart-less m n le other = omega (arith, le, other)

pub sorted-up : (xs : List ℕ) → Apart xs → Up (sorted by_number xs)
sorted-up [] apart = tt
sorted-up (x ∷ xs) apart = put-up x (sorted by_number xs) (sorted-up xs apart.1) (λ m. apart.0 (mem-sorted by_number xs x m))

pub mem-take : (n : ℕ) (xs : List ℕ) (y : ℕ) → Mem y (take n xs) → Mem y xs
mem-take zero xs y m = absurd m
mem-take (suc n) [] y m = absurd m
mem-take (suc n) (x ∷ xs) y (inl e) = inl e
mem-take (suc n) (x ∷ xs) y (inr m) = inr (mem-take n xs y m)

pub take-up : (n : ℕ) (xs : List ℕ) → Up xs → Up (take n xs)
take-up zero xs up = tt
take-up (suc n) [] up = tt
take-up (suc n) (x ∷ xs) up = ((λ y m. up.0 y (mem-take n xs y m)), take-up n xs up.1)

pub up-rises : (xs : List ℕ) → Up xs → IsStrictlyIncreasing xs
up-rises [] up k lt = absurd (omega (arith, lt))
up-rises (x ∷ []) up k lt = absurd (omega (arith, lt))
up-rises (x ∷ y ∷ more) up zero lt = up.0 y (inl refl)
up-rises (x ∷ y ∷ more) up (suc k) lt =
    let next : suc k + 1 ≡ suc (k + 1) = omega arith in
    let rest = up-rises (y ∷ more) up.1 k (omega (arith, lt)) in
    subst (λ j. slice_index (y ∷ more) k < slice_index (x ∷ y ∷ more) j) (sym next) rest

pub filter-apart : (test : ℕ → Bool) (xs : List ℕ) → Apart xs → Apart (filter test xs)
filter-apart test [] apart = tt
filter-apart test (x ∷ xs) apart = go (test x) (filter-apart test xs apart.1)
  where
    go : (b : Bool) → Apart (filter test xs) → Apart (if b then x ∷ filter test xs else filter test xs)
    go true rest = ((λ m. apart.0 (filter-mem test xs x m).0), rest)
    go false rest = rest

pairs-apart : (xs : List ℕ) → Pairs (λ m n. m ≢ n) xs → Apart xs
pairs-apart [] pairs = tt
pairs-apart (x ∷ xs) pairs = (
  (λ m. (let at = mem-slice_get xs x m in pairs 0 (suc at.0) x x (omega arith) refl at.1 refl)),
  pairs-apart xs (λ i j a b lt at_i at_j. pairs (suc i) (suc j) a b (omega (arith, lt)) at_i at_j),
)

pub distinct-apart : (xs : List ℕ) → AllPairs (λ m n. m ≢ n) xs → Apart xs
distinct-apart xs distinct = pairs-apart xs (all-pairs (λ m n. m ≢ n) xs distinct)
