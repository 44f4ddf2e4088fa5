-- What is known of a record before its entry is read.
use Rattle.std.specs.Prelude.{◌≡◌, ℕ, ◌+◌, ◌<◌, ◌≤◌, ◌^◌, List, ◌∷◌, ◌++◌, length, drop}
use Rattle.byte_defs.specs.Fields.{four_bytes}
use Rattle.journal_defs.specs.Journals.{open_gate}

-- the gate there is open, after it comes the length n, and after that n bytes and one more
pub record HasLengthAt (file : List ℕ) (place n : ℕ) : Type 0 where
  pub rest : List ℕ
  pub parts : drop place file ≡ open_gate ∷ (four_bytes n ++ rest)
  pub room : n + 1 ≤ length rest
  pub below : n < 2 ^ 32
