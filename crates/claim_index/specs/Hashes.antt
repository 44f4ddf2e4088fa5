-- How keys are hashed.
use Rattle.std.specs.Prelude.{ℕ, ◌+◌, ◌*◌, ◌/◌, ◌%◌, ◌^◌, List, fold}
use lib.Bits.{bit_xor}
use Rattle.claim_index.specs.declared.hasher.KeyHasher.{KeyHasher}

-- before the first byte
abbrev pub begun : KeyHasher
begun = record { number = 0 }

-- with one byte more, the lowest of a number of 64 bits
abbrev pub pushed : KeyHasher → ℕ → KeyHasher
pushed h byte = record { number = (h.number * 256 % 2 ^ 64 + byte) % 2 ^ 64 }

-- with these bytes more
abbrev pub written : KeyHasher → List ℕ → KeyHasher
written = fold pushed

-- all but the two lowest bits, spread; and these two where a table's tag is read
abbrev pub finished : KeyHasher → ℕ
finished h = bit_xor (h.number / 4 * 11400714819323198485 % 2 ^ 64) (h.number % 4 * 16777216)
