-- HMAC with SHA-256, as RFC 2104 (section 2) defines it over a hash H of blocks of B bytes: here B = 64.
use Rattle.std.specs.Prelude.{ℕ, ◌-◌, nat_lt, if◌then◌else◌, List, ◌++◌, length, map, replicate, bit_xor}
use Rattle.sha2.specs.Sha256.{sha256}

-- B, the bytes of a block
unfoldable pub block_bytes : ℕ
block_bytes = 64

-- the bytes that are repeated to a whole block: of the inner pad and of the outer one
abbrev pub ipad : ℕ
ipad = 0x36

abbrev pub opad : ℕ
opad = 0x5c

-- "Applications that use keys longer than B bytes will first hash the key using H"
abbrev pub hashed_if_long : List ℕ → List ℕ
hashed_if_long key = if nat_lt block_bytes (length key) then sha256 key else key

-- (1) append zeros to the end of K to create a B byte string
abbrev pub block_of : List ℕ → List ℕ
block_of k = k ++ replicate (block_bytes - length k) 0

-- (2), (5) XOR the B byte string with a pad
abbrev pub xored : ℕ → List ℕ → List ℕ
xored pad bytes = map (λ b. bit_xor b pad) bytes

-- H(K XOR opad, H(K XOR ipad, text))
unfoldable pub hmac : List ℕ → List ℕ → List ℕ
hmac key text =
    let k = block_of (hashed_if_long key) in
    sha256 (xored opad k ++ sha256 (xored ipad k ++ text))
