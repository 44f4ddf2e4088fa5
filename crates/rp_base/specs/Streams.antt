-- What was written where a sink may fail.
use Rattle.std.specs.Prelude.{◌≡◌, ◌⊎◌, ℕ, ◌≤◌, List, length, take, Option}
use Rattle.std.specs.Io.KnownBytes.{Appends}
use Rattle.rp_base.specs.Causes.{Rose}

-- a prefix of the bytes was written
abbrev pub AppendsPrefix : Option (List ℕ) → Option (List ℕ) → List ℕ → Type 0
AppendsPrefix old new bytes = (n : ℕ) × (n ≤ length bytes) × Appends old new (take n bytes)

-- The bytes were written and nothing else, or the sink failed and a prefix of them was written: by the count of faults
-- before and now.
abbrev pub WritesLine : List ℕ → Option (List ℕ) → Option (List ℕ) → ℕ → ℕ → Type 0
WritesLine bytes old new before now = (Appends old new bytes × (now ≡ before)) ⊎ (AppendsPrefix old new bytes × Rose before now)
