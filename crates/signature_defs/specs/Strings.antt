-- Byte strings as RFC 8554 writes them (section 3.1). A string is a list of bytes, and its || is ++.
use Rattle.std.specs.Prelude.{ℕ, zero, suc, ◌+◌, ◌-◌, ◌*◌, ◌/◌, ◌%◌, ◌^◌, List, [], ◌∷◌, ◌++◌, take, drop, slice_index}
use Rattle.std.specs.Int.{w32, from_be_bytes}
use Rattle.byte_defs.specs.Fields.{two_bytes, four_bytes}

-- u8str, u16str, u32str: a number in network byte order (3.1)
abbrev pub u8str : ℕ → List ℕ
u8str n = n ∷ []

abbrev pub u16str : ℕ → List ℕ
u16str n = two_bytes n

abbrev pub u32str : ℕ → List ℕ
u32str n = four_bytes n

-- the n bytes from a place on
abbrev pub part : ℕ → ℕ → List ℕ → List ℕ
part at n s = take n (drop at s)

-- strTou32 of the four bytes from a place on (3.1)
abbrev pub u32_at : ℕ → List ℕ → ℕ
u32_at at s = from_be_bytes w32 (part at 4 s)

-- coef(S, i, w): the i-th group of w bits, from the highest bit on (3.1.3)
abbrev pub coef : List ℕ → ℕ → ℕ → ℕ
coef s i w = slice_index s (i * w / 8) / 2 ^ (8 - (w * (i % (8 / w)) + w)) % 2 ^ w

-- f 0 || f 1 || ... || f (n - 1)
unfoldable pub strings : (ℕ → List ℕ) → ℕ → List ℕ
strings f zero = []
strings f (suc n) = strings f n ++ f n

-- f 0 + f 1 + ... + f (n - 1)
unfoldable pub sums : (ℕ → ℕ) → ℕ → ℕ
sums f zero = 0
sums f (suc n) = sums f n + f n
