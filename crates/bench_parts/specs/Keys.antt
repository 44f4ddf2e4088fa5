-- Plain keys.
use Rattle.std.specs.Prelude.{ℕ, zero, suc, List, [], ◌∷◌, ◌++◌, replicate}

-- the key of a process: 32 bytes of its number
abbrev pub key_of : ℕ → List ℕ
key_of n = replicate 32 n

-- the first n processes with their keys
unfoldable pub plain_keys : ℕ → List (ℕ × List ℕ)
plain_keys zero = []
plain_keys (suc n) = plain_keys n ++ (n, key_of n) ∷ []
