-- Many chains of a one-time key, each with a first and a last step of its own.
use Rattle.std.specs.Prelude.{◌≡◌, Bool, true, false, ℕ, ◌-◌, ◌<◌, ◌≤◌, List, [], ◌++◌, slice_index, slice_index_or}
use Rattle.signature_defs.specs.Strings.{u16str}
use Rattle.signature_defs.specs.LmOts.{chain}

-- where chain i's steps lead from its value in `starts`
abbrev pub end_of : List ℕ → List ℕ → List ℕ → List (List ℕ) → ℕ → List ℕ
end_of key from to starts i = chain (key ++ u16str i) (slice_index from i) (slice_index to i - slice_index from i) (slice_index_or starts i [])

-- chain i has some of the steps from 0 to 255
abbrev pub HasSteps : List ℕ → List ℕ → ℕ → Type 0
HasSteps from to i = (slice_index from i ≤ slice_index to i) × (slice_index to i ≤ 256)

-- the chains that are done are at their ends
abbrev pub AreDone : List ℕ → List ℕ → List ℕ → List (List ℕ) → List (List ℕ) → List Bool → Type 0
AreDone key from to starts ends done = (i : ℕ) → i < 265 → slice_index_or done i false ≡ true → slice_index_or ends i [] ≡ end_of key from to starts i
