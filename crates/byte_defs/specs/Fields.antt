-- Fields of bytes, read from the front. A step of a reading answers what it read and the bytes after it, or the
-- first fault; the fault of a field that the bytes don't hold is named where the field is read.
use Rattle.std.specs.Prelude.{Bool, ℕ, List, length, take, drop, ◌++◌, Result, Ok, Err, nat_lt, if◌then◌else◌}
use Rattle.std.specs.Int.{Width, w16, w32, byte_len, from_be_bytes, to_be_bytes}

-- the second step, where the first did not fail
infixl 10 ◌>>=◌
abbrev pub ◌>>=◌ : {E A B : Type 0} → Result A E → (A → Result B E) → Result B E
(Ok x) >>= f = f x
(Err e) >>= f = Err e

-- a step that only tests
abbrev pub refuse_if : {E : Type 0} → Bool → E → Result (Unit {0}) E
refuse_if b fault = if b then Err fault else Ok tt

-- a number of this width, and the bytes after it
abbrev pub number_at : {E : Type 0} → E → Width → List ℕ → Result (ℕ × List ℕ) E
number_at fault w bytes = if nat_lt (length bytes) (byte_len w) then Err fault
    else Ok (from_be_bytes w (take (byte_len w) bytes), drop (byte_len w) bytes)

-- n bytes, and those after them
abbrev pub bytes_at : {E : Type 0} → E → ℕ → List ℕ → Result (List ℕ × List ℕ) E
bytes_at fault n bytes = if nat_lt (length bytes) n then Err fault else Ok (take n bytes, drop n bytes)

-- ---- how fields are spelled

-- a number in two bytes, the higher one first
abbrev pub two_bytes : ℕ → List ℕ
two_bytes n = to_be_bytes w16 n

-- a number in four bytes, the highest one first
abbrev pub four_bytes : ℕ → List ℕ
four_bytes n = to_be_bytes w32 n

-- two bytes of length, and that many bytes
abbrev pub text : List ℕ → List ℕ
text bytes = two_bytes (length bytes) ++ bytes
