-- What a writer of the code does to bytes.
use Rattle.std.specs.Prelude.{◌≡◌, ℕ, ◌+◌, List, ◌++◌, length, take, drop}

-- the field begins at this place and ends at that one; what is before it and after it stays
pub record Puts (old new : List ℕ) (place : ℕ) (field : List ℕ) (end : ℕ) : Type 0 where
  pub length : end ≡ place + length field
  pub front : take end new ≡ take place old ++ field
  pub behind : drop end new ≡ drop end old
