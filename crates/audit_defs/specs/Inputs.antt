-- The input of an audit: a kit up to `go`, and then for each journal
--   journal LENGTH
-- and after that line LENGTH bytes, which may be anything. Lines are counted without the journals' bytes. A line after `go` is Line
-- where it is not of this form, where it is that of a 65th journal, where its LENGTH is above 1,073,741,824 or brings the sum of all above
-- 2,147,483,648, and where the input ends within its journal.
use Rattle.std.specs.Prelude.{ℕ, zero, suc, ◌+◌, ◌-◌, nat_lt, if◌then◌else◌, List, [], ◌∷◌, ◌++◌, length, take, drop, flat_map, codes, Option, None, Result, Ok, Err}
use Rattle.std.specs.Option.{ok_or}
use Rattle.std.specs.Fmt.{decimal}
use Rattle.byte_defs.specs.Fields.{◌>>=◌, refuse_if}
use Rattle.byte_defs.specs.Equality.{same_bytes}
use Rattle.text_defs.specs.Words.{line_text, words_of, number_within}
use Rattle.kit_defs.specs.Kits.{Kit}
use Rattle.kit_defs.specs.KitReading.{KitFault, Line}
use Rattle.input_defs.specs.Lines.{line_at}
use Rattle.input_defs.specs.Fronts.{front_of, front_text}

-- how many journals an audit takes
abbrev pub most_journals : ℕ
most_journals = 64

-- how many bytes each of them has at most
unfoldable pub most_journal_bytes : ℕ
most_journal_bytes = 1073741824

-- and how many all of them together
unfoldable pub most_bytes : ℕ
most_bytes = 2147483648

-- the length that the line names
abbrev pub length_of : List (List ℕ) → Option ℕ
length_of (word ∷ number ∷ []) = if same_bytes word (codes "journal") then number_within 0 most_journal_bytes number else None
length_of _ = None

-- At most `left` journals may still come, from line n on, and `room` bytes in them.
unfoldable pub journals_at : ℕ → ℕ → ℕ → List ℕ → Result (List (List ℕ)) KitFault
journals_at left n room [] = Ok []
journals_at zero n room (c ∷ bytes) = Err (Line n)
journals_at (suc left) n room (c ∷ bytes) = do
  line ← ok_or (line_at (c ∷ bytes)) (Line n)
  len ← ok_or (length_of (words_of line.0)) (Line n)
  _ ← refuse_if (nat_lt room len) (Line n)
  _ ← refuse_if (nat_lt (length line.1) len) (Line n)
  others ← journals_at left (n + 1) (room - len) (drop len line.1)
  Ok (take len line.1 ∷ others)

-- what an audit is of
pub record Input : Type 0 where
  pub kit : Kit
  pub journals : List (List ℕ)

-- the input that the bytes are, or the first line's fault
abbrev pub input_of : List ℕ → Result Input KitFault
input_of bytes = do
  front ← front_of bytes
  journals ← journals_at most_journals front.line most_bytes front.rest
  Ok (record { kit = front.kit; journals = journals })

-- ---- how it is spelled

abbrev pub journal_text : List ℕ → List ℕ
journal_text journal = line_text (codes "journal" ∷ decimal (length journal) ∷ []) ++ journal

abbrev pub input_text : Input → List ℕ
input_text input = front_text input.kit ++ flat_map journal_text input.journals
