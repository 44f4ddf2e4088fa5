-- The words of a lane, one for each vector.
use Rattle.std.proofs.Common.{◌≡◌, ℕ, ◌+◌, ◌*◌, ◌/◌, ◌%◌, ◌<◌, List, [], slice_index, refl, subst, arith}
use Rattle.std.proofs.Math.ListN.{get_or-map}
use Rattle.sha256_lanes.specs.Lanes.{lane, lane_at, words_in}
use Rattle.sha256_lanes.proofs.DigestWords.{below_eight}
use Rattle.sha256_lanes.proofs.Four.{below_four}

pub word_in : (x : List (List ℕ)) (k j : ℕ) → slice_index (words_in j x) k ≡ lane_at x k j
word_in x k j = get_or-map (λ (v : List ℕ). slice_index v j) x k []

-- the words of a digest
pub lane_word : (x : List (List ℕ)) (j k : ℕ) → k < 8 → slice_index (lane j x) k ≡ lane_at x k j
lane_word x j = below_eight _ refl refl refl refl refl refl refl refl

-- what holds of each of the sixteen words of a block
pub below_sixteen : (P : ℕ → Type 0) → P 0 → P 1 → P 2 → P 3 → P 4 → P 5 → P 6 → P 7
    → P 8 → P 9 → P 10 → P 11 → P 12 → P 13 → P 14 → P 15 → (k : ℕ) → k < 16 → P k
below_sixteen P a0 a1 a2 a3 b0 b1 b2 b3 c0 c1 c2 c3 d0 d1 d2 d3 k h =
    let place : 4 * (k / 4) + k % 4 ≡ k = omega arith in
    subst P place (below_four (λ row. (col : ℕ) → col < 4 → P (4 * row + col))
    (below_four _ a0 a1 a2 a3) (below_four _ b0 b1 b2 b3) (below_four _ c0 c1 c2 c3) (below_four _ d0 d1 d2 d3)
    (k / 4) (omega arith) (k % 4) (omega arith))
