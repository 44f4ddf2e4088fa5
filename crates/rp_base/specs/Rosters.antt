-- A roster as its processes' numbers and keys.
use Rattle.std.specs.Prelude.{ℕ, ◌<◌, List, map, AllPairs}
use Rattle.rp_base.specs.declared.roster.Listed.{Listed}

-- the number and the key of each
abbrev pub keys_of : List Listed → List (ℕ × List ℕ)
keys_of listed = map (λ k. (k.process, k.key.items)) listed

-- each number is below those after it
abbrev pub IsRising : List (ℕ × List ℕ) → Type 0
IsRising keys = AllPairs (λ k l. k.0 < l.0) keys
