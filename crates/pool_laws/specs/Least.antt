-- Which number is the first or the last that passes a test.
use Rattle.std.specs.Prelude.{ℕ, ◌<◌, ◌≤◌, Bool, IsTrue, IsFalse, Option, Some, None}

-- the least number from a on and below n that passes the test; none where none passes
abbrev pub IsLeastFrom : ℕ → ℕ → (ℕ → Bool) → Option ℕ → Type 0
IsLeastFrom a n test None = (k : ℕ) → a ≤ k → k < n → IsFalse (test k)
IsLeastFrom a n test (Some k) = (a ≤ k) × (k < n) × IsTrue (test k) × ((j : ℕ) → a ≤ j → j < k → IsFalse (test j))

-- the least number below n that passes the test
abbrev pub IsLeastBelow : ℕ → (ℕ → Bool) → Option ℕ → Type 0
IsLeastBelow n = IsLeastFrom 0 n

-- the greatest number below n that passes the test; none where none passes
abbrev pub IsGreatestBelow : ℕ → (ℕ → Bool) → Option ℕ → Type 0
IsGreatestBelow n test None = (k : ℕ) → k < n → IsFalse (test k)
IsGreatestBelow n test (Some k) = (k < n) × IsTrue (test k) × ((j : ℕ) → k < j → j < n → IsFalse (test j))
