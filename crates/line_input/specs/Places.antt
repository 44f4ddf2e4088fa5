-- What an answer to an input is by the bytes of it that were read: by what a source had left before and has left now. The answer is any
-- function of all bytes.
use Rattle.std.specs.Prelude.{◌≡◌, ◌⊎◌, List, ℕ, ◌++◌, Option}
use Rattle.std.specs.Io.KnownBytes.{Consumes, IsAtEnd}

-- Bytes were read, and whatever comes after them, the answer goes on so.
pub record Leads {A : Type 0} (answer : List ℕ → A) (before now : Option (List ℕ)) (goes_on : List ℕ → A) : Type 0 where
  pub read : List ℕ
  pub taken : Consumes before now read
  pub is : (rest : List ℕ) → answer (read ++ rest) ≡ goes_on rest

-- Bytes were read to which this is the answer, whatever comes after them, or as the input ends with them.
pub record Settles {A : Type 0} (answer : List ℕ → A) (before now : Option (List ℕ)) (a : A) : Type 0 where
  pub read : List ℕ
  pub taken : Consumes before now read
  pub is : ((rest : List ℕ) → answer (read ++ rest) ≡ a) ⊎ (IsAtEnd now × (answer read ≡ a))

-- Bytes were read up to the input's end, and this is the answer to them.
pub record Ends {A : Type 0} (answer : List ℕ → A) (before now : Option (List ℕ)) (a : A) : Type 0 where
  pub read : List ℕ
  pub taken : Consumes before now read
  pub ended : IsAtEnd now
  pub is : answer read ≡ a
