-- Which claims an image can keep.
use Rattle.std.specs.Prelude.{◌≤◌, List, length}
use Rattle.std.specs.List.{AllByRecursion}
use Rattle.message_defs.specs.Limits.{most_members}
use Rattle.message_defs.specs.Statements.{Claim}
use Rattle.message_defs.specs.Spelling.{IsClaim}

-- at most 16 claims, each in range
abbrev pub IsCommit : List Claim → Type 0
IsCommit cs = (length cs ≤ most_members) × AllByRecursion IsClaim cs

-- both claims of each pair are in range
abbrev pub ArePairsRanged : List (Claim × Claim) → Type 0
ArePairsRanged pairs = AllByRecursion (λ pair. IsClaim pair.0 × IsClaim pair.1) pairs
