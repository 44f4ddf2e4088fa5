-- Rising lists of numbers.
use Rattle.std.proofs.Common.{◌≡◌, ℕ, zero, suc, ◌+◌, ◌<◌, ◌≤◌, List, [], ◌∷◌, length, take, refl, sym, ap, ◌∙◌, subst, inl, inr, arith}
use Rattle.std.specs.List.Sorted.{IsStrictlyIncreasing}
use Rattle.std.proofs.lemmas.List.Kept.{AllPairs-from_increasing}
use Rattle.pool_laws.proofs.Members.{Mem}
use Rattle.pool_laws.proofs.Places.{Pairs, all-pairs, mem-slice_get}
use Rattle.image_laws.proofs.Rising.{Up}

pairs-up : (xs : List ℕ) → Pairs (λ x y. x < y) xs → Up xs
pairs-up [] pairs = tt
pairs-up (x ∷ xs) pairs = (
  (λ y m. (let at = mem-slice_get xs y m in pairs 0 (suc at.0) x y (omega arith) refl at.1)),
  pairs-up xs (λ i j a b lt at_i at_j. pairs (suc i) (suc j) a b (omega (arith, lt)) at_i at_j),
)

pub rises-up : (xs : List ℕ) → IsStrictlyIncreasing xs → Up xs
rises-up xs rising = pairs-up xs (all-pairs (λ x y. x < y) xs (AllPairs-from_increasing xs rising))

-- lists that rise and have the same members are one
pub same-up : (xs ys : List ℕ) → Up xs → Up ys → ((z : ℕ) → Mem z xs → Mem z ys) → ((z : ℕ) → Mem z ys → Mem z xs) → xs ≡ ys
same-up [] [] up up' there back = refl
same-up [] (y ∷ ys) up up' there back = absurd (back y (inl refl))
same-up (x ∷ xs) [] up up' there back = absurd (there x (inl refl))
same-up (x ∷ xs) (y ∷ ys) up up' there back =
    let first : x ≡ y = least (there x (inl refl)) (back y (inl refl)) in
    let rest = same-up xs ys up.1 up'.1 (λ z m. onward z m first (there z (inr m))) (λ z m. backward z m first (back z (inr m))) in
    λ i. first i ∷ rest i
  where
    least : Mem x (y ∷ ys) → Mem y (x ∷ xs) → x ≡ y
    least (inl is) n = sym is
    least (inr m) (inl is) = is
    least (inr m) (inr n) = (let below = up'.0 x m in let above = up.0 y n in absurd (omega (arith, below, above)))

    onward : (z : ℕ) → Mem z xs → x ≡ y → Mem z (y ∷ ys) → Mem z ys
    onward z m first (inl is) = (let above = up.0 z m in absurd (omega (arith, above, is, first)))
    onward z m first (inr n) = n

    backward : (z : ℕ) → Mem z ys → x ≡ y → Mem z (x ∷ xs) → Mem z xs
    backward z m first (inl is) = (let above = up'.0 z m in absurd (omega (arith, above, is, first)))
    backward z m first (inr n) = n

pub take-whole : {A : Type 0} (n : ℕ) (xs : List A) → length xs ≡ n → take n xs ≡ xs
take-whole zero [] e = refl
take-whole zero (x ∷ xs) e = absurd (omega (arith, e))
take-whole (suc n) [] e = refl
take-whole (suc n) (x ∷ xs) e = ap (λ ys. x ∷ ys) (take-whole n xs (omega (arith, e)))
