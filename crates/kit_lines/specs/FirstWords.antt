-- The words that lines of a kit begin with.
use Rattle.std.specs.Prelude.{ℕ, Bool, List, [], ◌∷◌, Option, Some, None, codes, option_and_then}
use Rattle.byte_defs.specs.Choices.{first_that_holds}
use Rattle.byte_defs.specs.Equality.{same_bytes}
use Rattle.text_defs.specs.Words.{process_of}
use Rattle.kit_defs.specs.KitReading.{first_of}
use Rattle.kit_lines.specs.declared.first_words.FirstWord.{FirstWord}
use Rattle.kit_lines.specs.declared.first_words.FirstWord.TheVariants as firsts

-- which first words a word spells
abbrev pub first_words : List ℕ → List (Bool × FirstWord)
first_words word =
    (same_bytes word (codes "rampart"), firsts.Rampart)
    ∷ (same_bytes word (codes "scheme"), firsts.Scheme)
    ∷ (same_bytes word (codes "group"), firsts.Group)
    ∷ (same_bytes word (codes "key"), firsts.Key)
    ∷ (same_bytes word (codes "genesis"), firsts.Genesis)
    ∷ (same_bytes word (codes "port"), firsts.Port)
    ∷ (same_bytes word (codes "host"), firsts.Host)
    ∷ (same_bytes word (codes "pair"), firsts.Pair) ∷ []

-- the first word that is spelled so
abbrev pub first_word_of : List ℕ → Option FirstWord
first_word_of word = first_that_holds (first_words word)

-- the word of words that are one
abbrev pub only_word : List (List ℕ) → Option (List ℕ)
only_word (word ∷ []) = Some word
only_word _ = None

-- the process that the first word names
abbrev pub first_process : List (List ℕ) → Option ℕ
first_process words = option_and_then process_of (first_of words)
