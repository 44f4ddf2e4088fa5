-- What a line shows, and what is taken of what comes next of an input.
use Rattle.std.specs.Prelude.{ℕ, Bool, true, false, List, [], ◌∷◌, codes, Option, Some, None, option_and_then, Result, Ok, Err}
use Rattle.std.specs.Fmt.{decimal}
use Rattle.line_input.specs.declared.lines.Next.{Next}
use Rattle.line_input.specs.declared.lines.Next.TheVariants as nexts
use Rattle.group_defs.specs.Views.{View}
use Rattle.group_defs.specs.Process.{Setting}
use Rattle.chain_defs.specs.declared.ChainFault.{ChainFault}
use Rattle.chain_defs.specs.Advance.{advance}
use Rattle.chain_text_defs.specs.Chains.{frame_in, proof_in, proof_words}

-- the only word, where there is just one
abbrev pub only_word : List (List ℕ) → Option (List ℕ)
only_word (word ∷ []) = Some word
only_word _ = None

-- the frame of the words after `proof`
abbrev pub frame_behind : List (List ℕ) → Option (List ℕ)
frame_behind words = option_and_then frame_in (only_word words)

-- the view that the proof in the line of this number shows, or the words of its fault
abbrev pub view_or_words : ℕ → Result View ChainFault → Result View (List (List ℕ))
view_or_words n (Err fault) = Err (proof_words n fault)
view_or_words n (Ok w) = Ok w

-- the view that a frame shows after a view, or the words of the fault of the line with this number
abbrev pub frame_shows : Setting → ℕ → View → Option (List ℕ) → Result View (List (List ℕ))
frame_shows s n v None = Err (codes "line" ∷ decimal n ∷ [])
frame_shows s n v (Some bytes) = view_or_words n (advance s v bytes)

-- what a line shows
abbrev pub line_shows : Setting → ℕ → View → List ℕ → Result View (List (List ℕ))
line_shows s n v line = frame_shows s n v (proof_in line)

-- ---- what comes next

-- the words of the line of this number, which is none
abbrev pub no_line : ℕ → List (List ℕ)
no_line n = codes "line" ∷ decimal n ∷ []

-- a view more, where there is one
abbrev pub one_more : Result View (List (List ℕ)) → Result (Option View) (List (List ℕ))
one_more (Ok w) = Ok (Some w)
one_more (Err words) = Err words

-- What is taken of what comes next after a view, where the next line has this number: the view that the line shows, or none where the input
-- has ended.
abbrev pub taken : Setting → ℕ → View → Next → List ℕ → Result (Option View) (List (List ℕ))
taken s n v nexts.Line line = one_more (line_shows s n v line)
taken s n v nexts.Broken line = Err (no_line n)
taken s n v nexts.End line = Ok None

-- the view, where it was taken
abbrev pub if_taken : View → Bool → Option View
if_taken v true = Some v
if_taken v false = None
