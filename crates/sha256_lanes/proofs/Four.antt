-- What holds of each of the four lanes.
use Rattle.std.proofs.Common.{◌≡◌, ℕ, zero, suc, ◌<◌, ◌-◌, ◌*◌, ◌/◌, ◌%◌, ◌^◌, List, [], ◌∷◌, length, slice_index, bit_or, arith, refl}
use Rattle.std.specs.Simd.Lanes.{zip2}
use Rattle.std.specs.Int.{w32, rotate_right}

pub below_four : (P : ℕ → Type 0) → P 0 → P 1 → P 2 → P 3 → (j : ℕ) → j < 4 → P j
below_four P p0 p1 p2 p3 zero h = p0
below_four P p0 p1 p2 p3 (suc zero) h = p1
below_four P p0 p1 p2 p3 (suc (suc zero)) h = p2
below_four P p0 p1 p2 p3 (suc (suc (suc zero))) h = p3
below_four P p0 p1 p2 p3 (suc (suc (suc (suc n)))) h = absurd (omega arith)

-- what holds of each list of four elements
four_lanes : (P : List ℕ → Type 0) → ((a b c d : ℕ) → P (a ∷ b ∷ c ∷ d ∷ [])) → (xs : List ℕ) → length xs ≡ 4 → P xs
four_lanes P p (a ∷ b ∷ c ∷ d ∷ []) h = p a b c d
four_lanes P p [] h = absurd (omega arith)
four_lanes P p (a ∷ []) h = absurd (omega arith)
four_lanes P p (a ∷ b ∷ []) h = absurd (omega arith)
four_lanes P p (a ∷ b ∷ c ∷ []) h = absurd (omega arith)
four_lanes P p (a ∷ b ∷ c ∷ d ∷ e ∷ xs) h = absurd (omega arith)

-- a shift of each lane by as many bits
pub shifted : (k : ℕ) (x : List ℕ) → length x ≡ 4 → (j : ℕ) → j < 4
    → slice_index (zip2 (λ x n. x / 2 ^ n) x (k ∷ k ∷ k ∷ k ∷ [])) j ≡ slice_index x j / 2 ^ k
shifted k = four_lanes (λ x. (j : ℕ) → j < 4
    → slice_index (zip2 (λ x n. x / 2 ^ n) x (k ∷ k ∷ k ∷ k ∷ [])) j ≡ slice_index x j / 2 ^ k)
    (λ a b c d. below_four _ refl refl refl refl)

pub shifted_left : (k : ℕ) → k < 32 → (x : List ℕ) → length x ≡ 4 → (j : ℕ) → j < 4
    → slice_index (zip2 (λ x n. x * 2 ^ n % 2 ^ 32) x (k ∷ k ∷ k ∷ k ∷ [])) j ≡ slice_index x j * 2 ^ k % 2 ^ 32
shifted_left k low = four_lanes (λ x. (j : ℕ) → j < 4
    → slice_index (zip2 (λ x n. x * 2 ^ n % 2 ^ 32) x (k ∷ k ∷ k ∷ k ∷ [])) j ≡ slice_index x j * 2 ^ k % 2 ^ 32)
    (λ a b c d. below_four _ refl refl refl refl)

abbrev Rotates : ℕ → List ℕ → Type 0
Rotates k x = (j : ℕ) → j < 4
    → slice_index (zip2 bit_or
    (zip2 (λ x n. x / 2 ^ n) x (k ∷ k ∷ k ∷ k ∷ []))
    (zip2 (λ x n. x * 2 ^ n % 2 ^ 32) x ((32 - k) ∷ (32 - k) ∷ (32 - k) ∷ (32 - k) ∷ []))) j
    ≡ rotate_right w32 (slice_index x j) k

-- two shifts of each lane and an or are a rotation
pub rotates : (k : ℕ) → 0 < k → k < 32 → (x : List ℕ) → length x ≡ 4 → Rotates k x
rotates k low high =
    let right : k % 32 ≡ k = omega arith in
    let left : (32 - k) % 32 ≡ 32 - k = omega arith in
    four_lanes (Rotates k) (λ a b c d.
    below_four _ (rw (right, left) refl) (rw (right, left) refl) (rw (right, left) refl) (rw (right, left) refl))
