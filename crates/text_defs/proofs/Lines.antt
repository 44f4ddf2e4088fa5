-- A line is read as the words that it was made of, and a text as its lines.
use Rattle.std.proofs.Common.{◌≡◌, ℕ, zero, suc, ◌/◌, ◌%◌, ◌^◌, ◌<◌, ◌==◌, Bool, true, false, List, [], ◌∷◌, ◌++◌, refl, sym, ap, ◌∙◌, arith, append_assoc, append-nil}
use Rattle.std.specs.Prelude.{nat_le, slice_index}
use Rattle.std.specs.List.{All, flat_map, join_with_byte, list_all, list_any, slice_split}
use Rattle.std.specs.Fmt.{decimal}
use Rattle.std.specs.Str.Parse.{AllDigits}
use Rattle.std.proofs.lemmas.Fmt.{decimal_is_IsNumeral}
use Rattle.std.proofs.lemmas.List.Folds.{list_any-append}
use Rattle.std.proofs.lemmas.List.Splits.{join_with_byte-slice_split, slice_split_at, slice_split_none}
use Rattle.std.proofs.lemmas.Str.Parse.{digit_from_value}
use Rattle.hex.specs.Hex.{encode_lower, encode_with, lower_digits}
use Rattle.text_defs.specs.Words.{space, line_feed, parts_of, words_of}
use Rattle.text_defs.proofs.Tests.{and_true, or_false}

abbrev pub has_byte : ℕ → List ℕ → Bool
has_byte c text = list_any (λ d. d == c) text

-- the lines of a text, each with its line feed
abbrev pub lines_text : List (List ℕ) → List ℕ
lines_text lines = flat_map (λ line. line ++ line_feed ∷ []) lines

-- ---- bytes that no word has

other_digit : (c : ℕ) (t : List ℕ) (k : ℕ) → list_all (λ d. nat_le 48 d) t ≡ true → 0 < c → c < 48 → (slice_index t k == c) ≡ false
other_digit c [] k h some low = grind arith
other_digit c (d ∷ t) zero h some low = let first = (and_true (nat_le 48 d) _ h).0 in grind arith
other_digit c (d ∷ t) (suc k) h some low = other_digit c t k (and_true (nat_le 48 d) _ h).1 some low

pub hex_has_no : (c : ℕ) (bytes : List ℕ) → 0 < c → c < 48 → has_byte c (encode_lower bytes) ≡ false
unfolding encode_with
hex_has_no c [] some low = refl
hex_has_no c (b ∷ bytes) some low = rw
    (other_digit c lower_digits (b / 16) refl some low, other_digit c lower_digits (b % 16) refl some low, hex_has_no c bytes some low) refl

digits_have_no : (c : ℕ) (ds : List ℕ) → c < 48 → AllDigits 10 ds → has_byte c ds ≡ false
digits_have_no c [] low h = refl
digits_have_no c (d ∷ ds) low h =
    let digit = digit_from_value d h.0 in
    let other : (d == c) ≡ false = grind arith in
    rw (other, digits_have_no c ds low h.1) refl

pub decimal_has_no : (c n : ℕ) → c < 48 → n < 2 ^ 64 → has_byte c (decimal n) ≡ false
decimal_has_no c n low small = digits_have_no c (decimal n) low (decimal_is_IsNumeral n small).0.1

-- ---- words

none_is : (c : ℕ) (text : List ℕ) → has_byte c text ≡ false → All (λ d. (d == c) ≡ false) text
none_is c [] h k d l = absurd (omega arith)
none_is c (x ∷ xs) h zero d l = (or_false (x == c) _ h).0
none_is c (x ∷ xs) h (suc k) d l = none_is c xs (or_false (x == c) _ h).1 k d (omega arith)

is_itself : (c : ℕ) → (c == c) ≡ true
is_itself c = grind arith

parts_of_join : (c : ℕ) (word : List ℕ) (words : List (List ℕ)) → list_any (has_byte c) (word ∷ words) ≡ false
    → slice_split (λ d. d == c) (join_with_byte c (word ∷ words)) ≡ word ∷ words
parts_of_join c word [] h = slice_split_none (λ d. d == c) word (none_is c word (or_false (has_byte c word) _ h).0)
parts_of_join c word (next ∷ words) h =
    let none = or_false (has_byte c word) _ h in
    slice_split_at (λ d. d == c) word c (join_with_byte c (next ∷ words)) (none_is c word none.0) (is_itself c) ∙ ap (λ parts. word ∷ parts)
    (parts_of_join c next words none.1)

pub words_of_join : (word : List ℕ) (words : List (List ℕ)) → list_any (has_byte space) (word ∷ words) ≡ false
    → words_of (join_with_byte space (word ∷ words)) ≡ word ∷ words
words_of_join word words h = parts_of_join space word words h

pub join_words_of : (line : List ℕ) → join_with_byte space (words_of line) ≡ line
join_words_of line = join_with_byte-slice_split space line

pub join_has_no : (c : ℕ) (words : List (List ℕ)) → (space == c) ≡ false → list_any (has_byte c) words ≡ false
    → has_byte c (join_with_byte space words) ≡ false
join_has_no c [] other h = refl
join_has_no c (word ∷ []) other h = (or_false (has_byte c word) _ h).0
join_has_no c (word ∷ next ∷ words) other h =
    let none = or_false (has_byte c word) _ h in
    let more = join_has_no c (next ∷ words) other none.1 in
    list_any-append (λ d. d == c) word (space ∷ join_with_byte space (next ∷ words)) ∙ rw (none.0, other, more) refl

-- ---- lines

pub parts_of_lines : (lines : List (List ℕ)) → list_any (has_byte line_feed) lines ≡ false → parts_of (lines_text lines) ≡ lines ++ [] ∷ []
parts_of_lines [] h = refl
parts_of_lines (line ∷ lines) h =
    let none = or_false (has_byte line_feed line) _ h in
    ap parts_of (append_assoc line (line_feed ∷ []) (lines_text lines))
    ∙ slice_split_at (λ d. d == line_feed) line line_feed (lines_text lines) (none_is line_feed line none.0) refl
    ∙ ap (λ parts. line ∷ parts) (parts_of_lines lines none.1)

joined_lines : (lines : List (List ℕ)) → join_with_byte line_feed (lines ++ [] ∷ []) ≡ lines_text lines
joined_lines [] = refl
joined_lines (line ∷ []) = sym (append-nil (line ++ line_feed ∷ []))
joined_lines (line ∷ next ∷ lines) = ap (λ more. line ++ line_feed ∷ more)
    (joined_lines (next ∷ lines)) ∙ sym (append_assoc line (line_feed ∷ []) (lines_text (next ∷ lines)))

pub lines_of_parts : (lines : List (List ℕ)) (text : List ℕ) → parts_of text ≡ lines ++ [] ∷ [] → text ≡ lines_text lines
lines_of_parts lines text h = sym (join_with_byte-slice_split line_feed text) ∙ ap (join_with_byte line_feed) h ∙ joined_lines lines
