-- A kit at the front of bytes to which more come.
use Rattle.std.specs.Prelude.{◌≡◌, List, ◌++◌, ℕ, Ok}
use Rattle.input_defs.specs.Fronts.{Front, front_of}

-- with more bytes after it
abbrev pub with_more : List ℕ → Front → Front
with_more more f = record f { rest = f.rest ++ more }

-- the same kit is at the front
abbrev pub FrontsGoOn : Type 0
FrontsGoOn = (bytes more : List ℕ) (f : Front) → front_of bytes ≡ Ok f → front_of (bytes ++ more) ≡ Ok (with_more more f)
