-- The line that a guard writes.
use Rattle.std.specs.Prelude.{ℕ, List, [], ◌∷◌, codes, Option, Some, None}
use Rattle.std.specs.Fmt.{decimal}
use Rattle.text_defs.specs.Words.{line_text}

-- whom it accuses
abbrev pub accused_word : Option ℕ → List ℕ
accused_word None = codes "none"
accused_word (Some q) = decimal q

-- the line of this process, with whom it accuses
abbrev pub accuse_text : ℕ → Option ℕ → List ℕ
accuse_text me accused = line_text (codes "accuse" ∷ decimal me ∷ accused_word accused ∷ [])
