-- Places of an input after the line `go`, and what is read from one on.
-- Names here (* for this crate alone):
--   Place*, place*, first_place*, Journals*, journals_from*, and_then*, behind_journal*
--   a line: length_behind*, length_within*, journals_behind*, behind_line*
use Rattle.std.specs.Prelude.{ℕ, ◌+◌, ◌-◌, ◌&&◌, nat_le, nat_lt, if◌then◌else◌, List, [], ◌∷◌, ◌++◌, length, take, drop, Option, Some, None, option_and_then, Result, Ok, Err}
use Rattle.byte_defs.specs.Fields.{◌>>=◌}
use Rattle.text_defs.specs.Words.{number_within, words_of}
use Rattle.kit_defs.specs.KitReading.{KitFault, Line}
use Rattle.audit_defs.specs.Inputs.{journals_at, length_of, most_bytes, most_journal_bytes, most_journals}

-- A place before the line of a journal: how many journals may still come, the number of the line, how many bytes may still come in
-- journals, and the bytes that are read already.
pub record Place : Type 0 where
  pub left : ℕ
  pub number : ℕ
  pub room : ℕ
  pub ahead : List ℕ

abbrev pub place : ℕ → ℕ → ℕ → List ℕ → Place
place left number room ahead = record { left = left; number = number; room = room; ahead = ahead }

-- before the first journal, whose line has this number
abbrev pub first_place : ℕ → List ℕ → Place
first_place number ahead = place most_journals number most_bytes ahead

-- several journals, or the first line's fault
abbrev pub Journals : Type 0
Journals = Result (List (List ℕ)) KitFault

-- the journals from there on, with these further bytes
abbrev pub journals_from : Place → List ℕ → Journals
journals_from p more = journals_at p.left p.number p.room (p.ahead ++ more)

-- these journals, and then others
abbrev pub and_then : List (List ℕ) → Journals → Journals
and_then journals others = others >>= λ more. Ok (journals ++ more)

-- this journal, and then those from there on
abbrev pub behind_journal : List ℕ → Place → List ℕ → Journals
behind_journal journal p more = and_then (journal ∷ []) (journals_from p more)

-- ---- a line

-- the length that the words after `journal` are
abbrev pub length_behind : List (List ℕ) → Option ℕ
length_behind (number ∷ []) = number_within 0 most_journal_bytes number
length_behind _ = None

-- the length that a line names, where a journal may come and has room
abbrev pub length_within : ℕ → ℕ → List ℕ → Option ℕ
length_within left room line = option_and_then (λ len. if nat_lt 0 left && nat_le len room then Some len else None) (length_of (words_of line))

-- The journals after a line that names this length, and was read at a place, of these bytes: the first `len` are a journal, and fewer
-- make the line faulty.
abbrev pub journals_behind : ℕ → Place → List ℕ → Journals
journals_behind len p bytes =
    if nat_lt (length bytes) len then Err (Line p.number)
    else and_then (take len bytes ∷ []) (journals_at (p.left - 1) (p.number + 1) (p.room - len) (drop len bytes))

-- the same, with these further bytes after those that are read
abbrev pub behind_line : ℕ → Place → List ℕ → Journals
behind_line len p more = journals_behind len p (p.ahead ++ more)
