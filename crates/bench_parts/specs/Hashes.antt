-- Hashes that are timed, and how many blocks signatures hash.
use Rattle.std.specs.Prelude.{ℕ, zero, suc, ◌+◌, ◌-◌, ◌/◌, ◌^◌, min, List, ◌++◌, drop, replicate}
use Rattle.sha2.specs.Sha256.{sha256}

-- the blocks of 64 bytes that SHA-256 hashes for a text of `len` bytes, with one byte more and the length in 8 after it
abbrev pub blocks_of : ℕ → ℕ
blocks_of len = (len + 8) / 64 + 1

-- a sum, up to the end of the type
abbrev pub capped_sum : ℕ → ℕ → ℕ
capped_sum a b = min (a + b) (2 ^ 64 - 1)

-- bytes with their digest over the first 32
abbrev pub hashed_once : List ℕ → List ℕ
hashed_once bytes = sha256 bytes ++ drop 32 bytes

-- 55 zeros, hashed n times
unfoldable pub hashed : ℕ → List ℕ
hashed zero = replicate 55 0
hashed (suc n) = hashed_once (hashed n)
