-- Words of the code, as their letters.
use Rattle.std.specs.Prelude.{◌≡◌, ℕ, List, [], ◌∷◌, ◌++◌, map, codes}
use Rattle.std.specs.List.{flat_map}
use Rattle.std.specs.Fmt.{decimal}
use Rattle.text_defs.specs.Words.{space, bytes_word, line_text}
use Rattle.node_text.specs.declared.words.Word.{Word}
use Rattle.node_text.specs.declared.words.Word.TheVariants.{Text, Number, Bytes, Processes}

abbrev pub spelled : Word → List (List ℕ)
spelled (Text text) = text.now ∷ []
spelled (Number n) = decimal n ∷ []
spelled (Bytes bytes) = bytes_word bytes.now ∷ []
spelled (Processes ps) = map decimal ps.now

-- each with a space before it
abbrev pub spaced : List (List ℕ) → List ℕ
spaced words = flat_map (λ w. space ∷ w) words

-- its words, each with a space before it
abbrev pub spelled_after : Word → List ℕ
spelled_after (Text text) = space ∷ text.now
spelled_after (Number n) = space ∷ decimal n
spelled_after (Bytes bytes) = space ∷ bytes_word bytes.now
spelled_after (Processes ps) = spaced (map decimal ps.now)

-- the text begins with what was there before
abbrev pub GoesOn : List ℕ → List ℕ → Type 0
GoesOn before now = (more : List ℕ) × (now ≡ before ++ more)

-- the line of a hosted process: its number, the number of its view, and how many messages and entries it has
abbrev pub host_words : ℕ → ℕ → ℕ → ℕ → List ℕ
host_words me view delivered entries = line_text (
    codes "host" ∷ decimal me ∷ codes "view" ∷ decimal view ∷ codes "delivered" ∷ decimal delivered ∷ codes "entries" ∷ decimal entries ∷ [])
