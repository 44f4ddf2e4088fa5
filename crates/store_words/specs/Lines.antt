-- Pieces of a line.
use Rattle.std.specs.Prelude.{ℕ, List, [], ◌∷◌, ◌++◌, Option, Some, None}
use Rattle.std.specs.Fmt.{decimal}
use Rattle.text_defs.specs.Words.{space}

-- a name and a process, with a space after each
abbrev pub head_of : List ℕ → ℕ → List ℕ
head_of name me = name ++ space ∷ (decimal me ++ space ∷ [])

-- the only word, where there is just one
abbrev pub only_word : List (List ℕ) → Option (List ℕ)
only_word (word ∷ []) = Some word
only_word _ = None
