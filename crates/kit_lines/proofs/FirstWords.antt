-- The line that words are, by the first of them.
use Rattle.std.proofs.Common.{◌≡◌, ℕ, Bool, true, false, List, [], ◌∷◌, map, Option, Some, None, option_map, refl, sym, ap, ◌∙◌}
use Rattle.std.specs.Option.{option_flatten}
use Rattle.byte_defs.specs.Choices.{first_that_holds}
use Rattle.signature_defs.specs.Schemes.{Scheme}
use Rattle.kit_defs.specs.Kits.{KitLine}
use Rattle.kit_defs.specs.KitReading.{version_by, scheme_by, group_by, key_by, genesis_by, port_by, host_by, pair_by, line_by}
use Rattle.kit_lines.specs.declared.first_words.FirstWord.{FirstWord}
use Rattle.kit_lines.specs.declared.first_words.FirstWord.TheVariants as firsts
use Rattle.kit_lines.specs.FirstWords.{first_word_of, first_words}

-- the line of the words behind a first word
abbrev pub line_behind : (Scheme → Bool) → List (List ℕ) → FirstWord → Option KitLine
line_behind may words firsts.Rampart = version_by words
line_behind may words firsts.Scheme = scheme_by may words
line_behind may words firsts.Group = group_by words
line_behind may words firsts.Key = key_by may words
line_behind may words firsts.Genesis = genesis_by words
line_behind may words firsts.Port = port_by words
line_behind may words firsts.Host = host_by may words
line_behind may words firsts.Pair = pair_by words

-- what is chosen among values is the value of what is chosen
chosen : {A B : Type 0} (f : A → B) (rows : List (Bool × A))
    → first_that_holds (map (λ row. (row.0, f row.1)) rows) ≡ option_map f (first_that_holds rows)
chosen f [] = refl
chosen f ((true, a) ∷ rows) = refl
chosen f ((false, a) ∷ rows) = chosen f rows

line_of_words : (may : Scheme → Bool) (word : List ℕ) (words : List (List ℕ))
    → line_by may (word ∷ words) ≡ option_flatten (option_map (line_behind may words) (first_word_of word))
unfolding line_by
line_of_words may word words = ap option_flatten (chosen (line_behind may words) (first_words word))

pub no_words : (may : Scheme → Bool) (all : List (List ℕ)) (r : Option KitLine) → all ≡ [] → r ≡ None → r ≡ line_by may all
unfolding line_by
no_words may all r none is = is ∙ sym (ap (line_by may) none)

pub line_is : (may : Scheme → Bool) (all : List (List ℕ)) (word : List ℕ) (words : List (List ℕ)) (first : FirstWord) (r : Option KitLine)
    → all ≡ word ∷ words → first_word_of word ≡ Some first → r ≡ line_behind may words first → r ≡ line_by may all
line_is may all word words first r parts begins is =
    is ∙ sym (ap (line_by may) parts ∙ line_of_words may word words ∙ ap
    (λ f. option_flatten (option_map (line_behind may words) f)) begins)

pub no_line : (may : Scheme → Bool) (all : List (List ℕ)) (word : List ℕ) (words : List (List ℕ)) (r : Option KitLine) → all ≡ word ∷ words
    → first_word_of word ≡ None → r ≡ None → r ≡ line_by may all
no_line may all word words r parts begins is =
    is ∙ sym (ap (line_by may) parts ∙ line_of_words may word words ∙ ap
    (λ f. option_flatten (option_map (line_behind may words) f)) begins)
