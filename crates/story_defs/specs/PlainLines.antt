-- A line of a story, byte by byte. Words are divided by blanks; a colon is a word of its own; a number sign begins a comment. Bytes are
-- quoted, or in hexadecimal. The plain line has single spaces between its words, no comment, and all bytes in hexadecimal.
-- Names here (* for this crate alone):
--   bytes with a meaning: number_sign*, quote*, backslash*, colon*, is_blank, ends_word, is_escaped
--   one byte: Scanned*, parted, between*, bare*, quoted*, opened*, escaped*, scanned
--   the whole line: line_end, scan, plain_line
use Rattle.std.specs.Prelude.{ℕ, Bool, ◌==◌, ◌||◌, nat_lt, if◌then◌else◌, List, [], ◌∷◌, ◌++◌, length, Result, Ok, Err}
use Rattle.hex.specs.Hex.{encode_lower}
use Rattle.byte_defs.specs.Fields.{◌>>=◌}
use Rattle.text_defs.specs.Words.{space}
use Rattle.story_defs.specs.declared.Expected.{Expected}
use Rattle.story_defs.specs.declared.Expected.TheVariants as expected
use Rattle.story_defs.specs.declared.Place.{Place}
use Rattle.story_defs.specs.declared.Place.TheVariants.{Between, Bare, Opened, Quoted, Escaped, Comment}

-- ---- bytes with a meaning

abbrev pub number_sign : ℕ
number_sign = 35

abbrev pub quote : ℕ
quote = 34

abbrev pub backslash : ℕ
backslash = 92

abbrev pub colon : ℕ
colon = 58

-- a space, a tabulator or a carriage return
abbrev pub is_blank : ℕ → Bool
is_blank c = (c == space) || (c == 9) || (c == 13)

-- it ends a word that is not quoted
abbrev pub ends_word : ℕ → Bool
ends_word c = is_blank c || (c == number_sign) || (c == quote) || (c == colon)

-- it may follow a backslash, and is in a quoted text only so
abbrev pub is_escaped : ℕ → Bool
is_escaped c = (c == quote) || (c == backslash)

-- ---- one byte

-- the plain line so far, and where the next byte is
abbrev pub Scanned : Type 0
Scanned = Result (List ℕ × Place) Expected

-- with room for one more word
abbrev pub parted : List ℕ → List ℕ
parted out = if length out == 0 then out else out ++ space ∷ []

-- a byte between words
abbrev pub between : List ℕ → ℕ → Scanned
between out c =
    if is_blank c then Ok (out, Between) else
    (if c == number_sign then Ok (out, Comment) else
    (if c == quote then Ok (parted out, Opened) else
    (if c == colon then Ok (parted out ++ colon ∷ [], Between) else Ok (parted out ++ c ∷ [], Bare))))

-- a byte of a word, or the one after it
abbrev pub bare : List ℕ → ℕ → Scanned
bare out c = if ends_word c then between out c else Ok (out ++ c ∷ [], Bare)

-- a byte of a quoted text, or the one after it
abbrev pub quoted : List ℕ → ℕ → Scanned
quoted out c =
    if c == quote then Ok (out, Between) else
    (if c == backslash then Ok (out, Escaped) else
    (if nat_lt c space then Err expected.Quote else Ok (out ++ encode_lower (c ∷ []), Quoted)))

-- the first byte of a quoted text; where there is none, a dash is its hexadecimal
abbrev pub opened : List ℕ → ℕ → Scanned
opened out c = if c == quote then Ok (out ++ 45 ∷ [], Between) else quoted out c

-- a byte after a backslash
abbrev pub escaped : List ℕ → ℕ → Scanned
escaped out c = if is_escaped c then Ok (out ++ encode_lower (c ∷ []), Quoted) else Err expected.Escape

-- a byte by its place
abbrev pub scanned : List ℕ → Place → ℕ → Scanned
scanned out Between c = between out c
scanned out Bare c = bare out c
scanned out Opened c = opened out c
scanned out Quoted c = quoted out c
scanned out Escaped c = escaped out c
scanned out Comment c = Ok (out, Comment)

-- ---- the whole line

-- the plain line, where the line ends here
abbrev pub line_end : List ℕ → Place → Result (List ℕ) Expected
line_end out Between = Ok out
line_end out Bare = Ok out
line_end out Opened = Err expected.Quote
line_end out Quoted = Err expected.Quote
line_end out Escaped = Err expected.Quote
line_end out Comment = Ok out

-- these bytes after a plain line so far
unfoldable pub scan : List ℕ → Place → List ℕ → Result (List ℕ) Expected
scan out place [] = line_end out place
scan out place (c ∷ line) = scanned out place c >>= λ next. scan next.0 next.1 line

-- the plain line of a line
abbrev pub plain_line : List ℕ → Result (List ℕ) Expected
plain_line line = scan [] Between line
