-- Four blocks side by side: each word is a vector, with one lane for each block.
use Rattle.std.specs.Prelude.{◌≡◌, ℕ, ◌*◌, ◌<◌, List, [], ◌∷◌, map, slice_index, slice_index_or}
use Rattle.sha2.specs.Sha256.{word_at}

-- lane j of vector k
abbrev pub lane_at : List (List ℕ) → ℕ → ℕ → ℕ
lane_at x k j = slice_index (slice_index_or x k []) j

-- the eight words of a hash value, or of the working variables, in lane j
abbrev pub lane : ℕ → List (List ℕ) → List ℕ
lane j x =
    lane_at x 0 j ∷ lane_at x 1 j ∷ lane_at x 2 j ∷ lane_at x 3 j
    ∷ lane_at x 4 j ∷ lane_at x 5 j ∷ lane_at x 6 j ∷ lane_at x 7 j ∷ []

-- the words of a block, or of the window of its schedule, in lane j
abbrev pub words_in : ℕ → List (List ℕ) → List ℕ
words_in j x = map (λ v. slice_index v j) x

-- the words are those of a block of 64 bytes
abbrev pub IsBlock : List ℕ → List ℕ → Type 0
IsBlock words b = (k : ℕ) → k < 16 → slice_index words k ≡ word_at b (4 * k)
