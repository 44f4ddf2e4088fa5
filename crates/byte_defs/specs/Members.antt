-- Membership in a list of numbers.
use Rattle.std.specs.Prelude.{ℕ, Bool, ◌==◌, List}
use Rattle.std.specs.List.{list_any}

-- the number is one of these
abbrev pub has : List ℕ → ℕ → Bool
has ps p = list_any (λ q. q == p) ps
