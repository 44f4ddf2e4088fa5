-- Lines of text. A line is its words with one space between them, and ends with a line feed. A number is a word of decimal
-- digits without sign or leading zero, and bytes are a word of lower-case hexadecimal digits.
-- Names here (* for this crate alone):
--   space, line_feed
--   words: words_of, line_text, begin_with
--   lines: parts_of
--   numbers: value_behind, number_of, number_within, process_of
--   bytes: AreBytes, is_upper_case, bytes_of, bytes_word, Spells
use Rattle.std.specs.Prelude.{◌≡◌, ℕ, codes, ◌+◌, ◌-◌, ◌*◌, ◌==◌, ◌&&◌, nat_le, Bool, true, false, if◌then◌else◌, List, [], ◌∷◌, ◌++◌, length, Option, Some, None, option_and_then}
use Rattle.std.specs.List.{list_any, slice_split, join_with_byte}
use Rattle.std.specs.Result.{result_ok}
use Rattle.std.specs.Fmt.{decimal}
use Rattle.hex.specs.Hex.{decode_sized, encode_lower, IsBytes}
use Rattle.byte_defs.specs.Equality.{same_bytes}

-- the byte between two words
abbrev pub space : ℕ
space = 32

-- the byte that ends a line
abbrev pub line_feed : ℕ
line_feed = 10

-- ---- words

-- the words of a line
abbrev pub words_of : List ℕ → List (List ℕ)
words_of line = slice_split (λ c. c == space) line

-- the line of these words, with its line feed
abbrev pub line_text : List (List ℕ) → List ℕ
line_text words = join_with_byte space words ++ line_feed ∷ []

-- the words begin with these
unfoldable pub begin_with : List (List ℕ) → List (List ℕ) → Bool
begin_with [] words = true
begin_with (first ∷ more) [] = false
begin_with (first ∷ more) (word ∷ words) = same_bytes first word && begin_with more words

-- ---- lines

-- the parts of a text between its line feeds: its lines, and what comes after the last line feed
abbrev pub parts_of : List ℕ → List (List ℕ)
parts_of bytes = slice_split (λ c. c == line_feed) bytes

-- ---- numbers

-- the value of decimal digits that follow those of a value
unfoldable pub value_behind : ℕ → List ℕ → ℕ
value_behind n [] = n
value_behind n (d ∷ digits) = value_behind (10 * n + (d - 48)) digits

-- the number that is spelled so
unfoldable pub number_of : List ℕ → Option ℕ
number_of word =
    let n = value_behind 0 word in
    if same_bytes (decimal n) word then Some n else None

-- the number that is spelled so, from the least to the most
abbrev pub number_within : ℕ → ℕ → List ℕ → Option ℕ
number_within least most word = option_and_then (λ n. if nat_le least n && nat_le n most then Some n else None) (number_of word)

-- the number of a process
abbrev pub process_of : List ℕ → Option ℕ
process_of word = number_within 0 63 word

-- ---- bytes

-- n of them, each below 256
abbrev pub AreBytes : ℕ → List ℕ → Type 0
AreBytes n xs = (length xs ≡ n) × IsBytes xs

-- the byte is a letter from A to Z
abbrev pub is_upper_case : ℕ → Bool
is_upper_case c = nat_le 65 c && nat_le c 90

-- the n bytes that a word spells
unfoldable pub bytes_of : ℕ → List ℕ → Option (List ℕ)
bytes_of n word = if list_any is_upper_case word then None else result_ok (decode_sized word n)

-- bytes in lower-case hexadecimal, or a dash where there are none
abbrev pub bytes_word : List ℕ → List ℕ
bytes_word [] = codes "-"
bytes_word (b ∷ bytes) = encode_lower (b ∷ bytes)

-- the word is the spelling of these bytes
abbrev pub Spells : List ℕ → List ℕ → Type 0
Spells word bytes = IsBytes bytes × (word ≡ bytes_word bytes)
