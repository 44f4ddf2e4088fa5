-- The parts of a text by its first line.
use Rattle.std.specs.Prelude.{◌≡◌, ℕ, List, ◌∷◌, Some}
use Rattle.text_defs.specs.Words.{parts_of}
use Rattle.input_defs.specs.Lines.{line_at}

-- the first line is the first part, and the others are those of what comes after it
abbrev pub PartsByLine : Type 0
PartsByLine = (bytes line rest : List ℕ) → line_at bytes ≡ Some (line, rest) → parts_of bytes ≡ line ∷ parts_of rest
