-- A line in its ranges is short, and its words are read of it.
use Rattle.std.proofs.Common.{◌≡◌, ℕ, ◌*◌, ◌^◌, ◌<◌, ◌≤◌, ◌==◌, nat_le, nat_lt, Bool, true, false, List, [], ◌∷◌, length, map, refl, arith, lit<, lit≤, length-append}
use Rattle.std.specs.List.{AllByRecursion, join_with_byte, list_all, list_any}
use Rattle.std.specs.Fmt.{decimal}
use Rattle.std.proofs.lemmas.Bool.{and_parts, le-ltb, leb-true, ne_eqb, or_from}
use Rattle.std.proofs.lemmas.Fmt.{length-decimal-le}
use Rattle.std.proofs.lemmas.List.{length-map}
use Rattle.hex.specs.Hex.{encode_lower, lower_digits}
use Rattle.hex.proofs.HexLemmas.{length-encode_with}
use Rattle.signature_defs.specs.LmOts.{ots_typecode}
use Rattle.signature_defs.specs.Schemes.{Scheme}
use Rattle.signature_defs.specs.Schemes as schemes
use Rattle.text_defs.specs.Words.{AreBytes, space, line_feed, words_of}
use Rattle.kit_defs.specs.Kits.{KitLine, One, Two, Version, SchemeIs, GroupIs, Key, Genesis, Port, PlainHost, LmsHost, HssHost, Pair, key_length, line_words}
use Rattle.kit_defs.specs.KitReading.{most_line_bytes}
use Rattle.kit_defs.proofs.LineShapes.{IsLine, IsPublicKey}
use Rattle.kit_defs.proofs.Versions.{built_ranges}
use Rattle.signature_defs.proofs.OtsLaws.{typecode_range}
use Rattle.text_defs.proofs.Lines.{decimal_has_no, has_byte, hex_has_no, join_has_no, words_of_join}

-- the text of a line, without its line feed
abbrev pub line_of : KitLine → List ℕ
line_of said = join_with_byte space (line_words said)

-- ---- words of a line

-- a word as they stand in the lines of a kit: of bytes from 48 on, and of 128 at most
record IsWord (word : List ℕ) : Type 0 where
  no_mark : (c : ℕ) → 0 < c → c < 48 → has_byte c word ≡ false
  size : length word ≤ 128

high_bytes : (word : List ℕ) → list_all (λ d. nat_le 48 d) word ≡ true → (c : ℕ) → 0 < c → c < 48 → has_byte c word ≡ false
high_bytes [] high c some low = refl
high_bytes (d ∷ word) high c some low =
    let both = and_parts (nat_le 48 d) (list_all (λ d. nat_le 48 d) word) high in
    let le : 48 ≤ d = leb-true 48 d both.0 in
    or_from (d == c) (has_byte c word) (ne_eqb d c (λ e. omega arith)) (high_bytes word both.1 c some low)

fixed_word : (word : List ℕ) → list_all (λ d. nat_le 48 d) word ≡ true → length word ≤ 128 → IsWord word
fixed_word word high size = record { no_mark = high_bytes word high; size = size }

number_word : (n : ℕ) → n < 2 ^ 32 → IsWord (decimal n)
number_word n small = record {
  no_mark = λ c some low. decimal_has_no c n low (omega arith);
  size = omega (arith, length-decimal-le 10 n (lit< tt) (omega arith) (omega arith));
}

bytes_word : (n : ℕ) (bytes : List ℕ) → AreBytes n bytes → n ≤ 64 → IsWord (encode_lower bytes)
bytes_word n bytes h le = record {
  no_mark = λ c some low. hex_has_no c bytes some low;
  size = omega (arith, length-encode_with lower_digits bytes, h.0);
}

key_short : (scheme : Scheme) → key_length scheme ≤ 64
key_short schemes.Plain = lit≤ tt
key_short schemes.Lms = lit≤ tt
key_short schemes.Hss = lit≤ tt

key_word : (may : Scheme → Bool) (key : List ℕ) → IsPublicKey may key → IsWord (encode_lower key)
key_word may key h = bytes_word (key_length h.0) key h.2 (key_short h.0)

member_words : (members : List ℕ) → AllByRecursion (λ m. m ≤ 63) members → AllByRecursion IsWord (map decimal members)
member_words [] small = tt
member_words (m ∷ members) small = (number_word m (omega (arith, small.0)), member_words members small.1)

are_words : (may : Scheme → Bool) (said : KitLine) → IsLine may said → AllByRecursion IsWord (line_words said)
are_words o (Version One) h = (fixed_word _ refl (lit≤ tt), (fixed_word _ refl (lit≤ tt), (fixed_word _ refl (lit≤ tt), tt)))
are_words o (Version Two) h = (fixed_word _ refl (lit≤ tt), (fixed_word _ refl (lit≤ tt), (fixed_word _ refl (lit≤ tt), tt)))
are_words o (SchemeIs schemes.Plain) h = (fixed_word _ refl (lit≤ tt), (fixed_word _ refl (lit≤ tt), tt))
are_words o (SchemeIs schemes.Lms) h = (fixed_word _ refl (lit≤ tt), (fixed_word _ refl (lit≤ tt), tt))
are_words o (SchemeIs schemes.Hss) h = (fixed_word _ refl (lit≤ tt), (fixed_word _ refl (lit≤ tt), tt))
are_words o (GroupIs group) h = (fixed_word _ refl (lit≤ tt), (bytes_word 16 group h (lit≤ tt), tt))
are_words o (Key p key) h = (fixed_word _ refl (lit≤ tt), (number_word p (omega (arith, h.0)), (key_word o key h.1, tt)))
are_words o (Genesis members) h = (fixed_word _ refl (lit≤ tt), member_words members h.numbers)
are_words o (Port p port) h = (
  fixed_word _ refl (lit≤ tt),
  (number_word p (omega (arith, h.0)), (number_word port (omega (arith, h.2)), tt)),
)
are_words o (PlainHost p total) h = (
  fixed_word _ refl (lit≤ tt),
  (number_word p (omega (arith, h.0)), (fixed_word _ refl (lit≤ tt), (number_word total h.2, tt))),
)
are_words o (LmsHost p code kind id seed) h = (
  fixed_word _ refl (lit≤ tt),
  (
    number_word p (omega (arith, h.number)),
    (
      fixed_word _ refl (lit≤ tt),
      (
        number_word code (omega (arith, h.most)),
        (
          number_word (ots_typecode kind) (omega (arith, typecode_range kind)),
          (bytes_word 16 id h.id_is (lit≤ tt), (bytes_word 32 seed h.seed_is (lit≤ tt), tt)),
        ),
      ),
    ),
  ),
)
are_words o (HssHost p levels code kind id seed) h =
    let b = built_ranges levels code kind h.built in (
      fixed_word _ refl (lit≤ tt),
      (
        number_word p (omega (arith, h.number)),
        (
          fixed_word _ refl (lit≤ tt),
          (
            number_word levels (omega (arith, b.few)),
            (
              number_word code (omega (arith, b.most)),
              (
                number_word (ots_typecode kind) (omega (arith, typecode_range kind)),
                (bytes_word 16 id h.id_is (lit≤ tt), (bytes_word 32 seed h.seed_is (lit≤ tt), tt)),
              ),
            ),
          ),
        ),
      ),
    )
are_words o (Pair p q key) h = (
  fixed_word _ refl (lit≤ tt),
  (number_word p (omega (arith, h.0)), (number_word q (omega (arith, h.1)), (bytes_word 32 key h.3 (lit≤ tt), tt))),
)

-- no word has a space or a line feed
marks : (c : ℕ) (words : List (List ℕ)) → 0 < c → c < 48 → AllByRecursion IsWord words → list_any (has_byte c) words ≡ false
marks c [] some low each = refl
marks c (word ∷ words) some low each = or_from (has_byte c word) (list_any (has_byte c) words) (each.0.no_mark c some low)
    (marks c words some low each.1)

-- one word at least, and 17 at most
word_count : (may : Scheme → Bool) (said : KitLine) → IsLine may said → (1 ≤ length (line_words said)) × (length (line_words said) ≤ 17)
word_count o (Version version) h = omega arith
word_count o (SchemeIs scheme) h = omega arith
word_count o (GroupIs group) h = omega arith
word_count o (Key p key) h = omega arith
word_count o (Genesis members) h = omega (arith, length-map members decimal, h.most)
word_count o (Port p port) h = omega arith
word_count o (PlainHost p total) h = omega arith
word_count o (LmsHost p code kind id seed) h = omega arith
word_count o (HssHost p levels code kind id seed) h = omega arith
word_count o (Pair p q key) h = omega arith

words_joined : (words : List (List ℕ)) → 1 ≤ length words → list_any (has_byte space) words ≡ false
    → words_of (join_with_byte space words) ≡ words
words_joined [] some none = absurd (omega arith)
words_joined (word ∷ words) some none = words_of_join word words none

pub line_words_of : (may : Scheme → Bool) (said : KitLine) → IsLine may said → words_of (line_of said) ≡ line_words said
line_words_of may said h = words_joined (line_words said)
    (word_count may said h).0 (marks space (line_words said) (lit< tt) (lit< tt) (are_words may said h))

pub no_line_feed : (may : Scheme → Bool) (said : KitLine) → IsLine may said → has_byte line_feed (line_of said) ≡ false
no_line_feed may said h = join_has_no line_feed (line_words said) refl
    (marks line_feed (line_words said) (lit< tt) (lit< tt) (are_words may said h))

-- ---- the length of a line

join_short : (words : List (List ℕ)) → AllByRecursion IsWord words → length (join_with_byte space words) ≤ 129 * length words
join_short [] each = omega arith
join_short (word ∷ []) each = omega (arith, each.0.size)
join_short (word ∷ next ∷ words) each =
    omega (arith, each.0.size, join_short (next ∷ words) each.1, length-append word (space ∷ join_with_byte space (next ∷ words)))

pub line_fits : (may : Scheme → Bool) (said : KitLine) → IsLine may said → nat_lt most_line_bytes (length (line_of said)) ≡ false
line_fits may said h = le-ltb most_line_bytes (length (line_of said))
    (omega (arith, join_short (line_words said) (are_words may said h), word_count may said h))
