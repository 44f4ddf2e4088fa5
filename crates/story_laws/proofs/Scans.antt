-- The tokens of a line, scanned one after another.
use Rattle.std.proofs.Common.{◌≡◌, ◌⊎◌, inl, inr, ℕ, zero, suc, ◌+◌, ◌/◌, ◌%◌, ◌<◌, ◌==◌, Bool, true, false, List, [], ◌∷◌, ◌++◌, length, map, Result, Ok, Err, refl, sym, ap, subst, ◌∙◌, arith, append_assoc, append-nil, length-append}
use Rattle.std.specs.Prelude.{if◌then◌else◌, ◌&&◌, ◌||◌, not, nat_le, nat_lt, slice_index}
use Rattle.std.specs.List.{flat_map, join_with_byte, list_all, list_any}
use Rattle.std.proofs.lemmas.List.Folds.{list_any-append}
use Rattle.hex.specs.Hex.{encode_lower, encode_with, lower_digits}
use Rattle.text_defs.specs.Words.{space, bytes_word}
use Rattle.text_defs.proofs.Tests.{and_true, or_false}
use Rattle.text_defs.proofs.Lines.{has_byte, hex_has_no}
use Rattle.story_defs.specs.declared.Expected.{Expected}
use Rattle.story_defs.specs.declared.Place.TheVariants.{Between, Bare, Opened, Quoted, Escaped}
use Rattle.story_defs.specs.PlainLines.{is_blank, ends_word, is_escaped, parted, scan}
use Rattle.story_defs.specs.Texts.{Token, Word, Bytes, is_printable, quoted_byte, quoted_text, shown_bytes, shown, plain}

-- ---- bytes of words

-- it stands in a word that is not quoted, and ends no line
abbrev pub stands : ℕ → Bool
stands c = not (ends_word c || (c == 10))

abbrev pub all_stand : List ℕ → Bool
all_stand [] = true
all_stand (c ∷ cs) = stands c && all_stand cs

-- a word with such bytes alone
abbrev pub is_bare : List ℕ → Bool
is_bare word = not (length word == 0) && all_stand word

-- such a word, or a colon
abbrev pub IsWord : List ℕ → Type 0
IsWord word = (word ≡ 58 ∷ []) ⊎ (is_bare word ≡ true)

abbrev pub IsToken : Token → Type 0
IsToken (Word word) = IsWord word
IsToken (Bytes bytes) = Unit {0}

abbrev pub AreTokens : List Token → Type 0
AreTokens [] = Unit {0}
AreTokens (t ∷ ts) = IsToken t × AreTokens ts

-- what such a byte is not
record Apart (c : ℕ) : Type 0 where
  ends : ends_word c ≡ false
  blank : is_blank c ≡ false
  gap : (c == 32) ≡ false
  sign : (c == 35) ≡ false
  quoted : (c == 34) ≡ false
  colon : (c == 58) ≡ false
  feed : (c == 10) ≡ false

not_or : (a b : Bool) → not (a || b) ≡ true → (a ≡ false) × (b ≡ false)
not_or true b e = absurd cc
not_or false true e = absurd cc
not_or false false e = (refl, refl)

apart : (c : ℕ) → stands c ≡ true → Apart c
apart c e =
    let all = not_or (ends_word c) (c == 10) e in
    let k = or_false (is_blank c || (c == 35) || (c == 34)) (c == 58) all.0 in
    let q = or_false (is_blank c || (c == 35)) (c == 34) k.0 in
    let s = or_false (is_blank c) (c == 35) q.0 in
    let b = or_false ((c == 32) || (c == 9)) (c == 13) s.0 in
    let g = or_false (c == 32) (c == 9) b.0 in
    record { ends = all.0; blank = s.0; gap = g.0; sign = s.1; quoted = q.1; colon = k.1; feed = all.1 }

pub suc_not_zero : (n : ℕ) → (suc n == 0) ≡ false
suc_not_zero n = grind arith

-- ---- words

bare_step : (out more : List ℕ) (c : ℕ) → Apart c → scan out Bare (c ∷ more) ≡ scan (out ++ c ∷ []) Bare more
unfolding scan
bare_step out more c p = rw p.ends refl

between_step : (out more : List ℕ) (c : ℕ) → Apart c → scan out Between (c ∷ more) ≡ scan (parted out ++ c ∷ []) Bare more
unfolding scan
between_step out more c p = rw (p.blank, p.sign, p.quoted, p.colon) refl

bare_on : (word : List ℕ) → all_stand word ≡ true → (out more : List ℕ) → scan out Bare (word ++ more) ≡ scan (out ++ word) Bare more
bare_on [] e out more = ap (λ o. scan o Bare more) (sym (append-nil out))
bare_on (c ∷ word) e out more =
    let both = and_true (stands c) (all_stand word) e in
    bare_step out (word ++ more) c (apart c both.0) ∙ bare_on word both.1 (out ++ c ∷ []) more
    ∙ ap (λ o. scan o Bare more) (append_assoc out (c ∷ []) word)

word_on : (word : List ℕ) → is_bare word ≡ true → (out more : List ℕ)
    → scan out Between (word ++ more) ≡ scan (parted out ++ word) Bare more
word_on [] e out more = absurd cc
word_on (c ∷ word) e out more =
    let each = and_true (not (length (c ∷ word) == 0)) (all_stand (c ∷ word)) e in
    let both = and_true (stands c) (all_stand word) each.1 in
    between_step out (word ++ more) c (apart c both.0) ∙ bare_on word both.1 (parted out ++ c ∷ []) more
    ∙ ap (λ o. scan o Bare more) (append_assoc (parted out) (c ∷ []) word)

colon_on : (out more : List ℕ) → scan out Between (58 ∷ more) ≡ scan (parted out ++ 58 ∷ []) Between more
unfolding scan
colon_on out more = refl

-- ---- quoted texts

byte_is : (c : ℕ) (b : Bool) → is_escaped c ≡ b → quoted_byte c ≡ (if b then 92 ∷ c ∷ [] else c ∷ [])
byte_is c b e = ap (λ v. if v then 92 ∷ c ∷ [] else c ∷ []) e

behind_backslash : (out more : List ℕ) (c : ℕ) → is_escaped c ≡ true
    → scan out Escaped (c ∷ more) ≡ scan (out ++ encode_lower (c ∷ [])) Quoted more
unfolding scan
behind_backslash out more c e = rw e refl

to_backslash : (out more : List ℕ) → scan out Quoted (92 ∷ more) ≡ scan out Escaped more
unfolding scan
to_backslash out more = refl

first_backslash : (out more : List ℕ) → scan out Opened (92 ∷ more) ≡ scan out Escaped more
unfolding scan
first_backslash out more = refl

not_low : (c : ℕ) → is_printable c ≡ true → nat_lt c 32 ≡ false
not_low c e = let low = (and_true (nat_le 32 c) (nat_lt c 127) e).0 in grind (arith, low)

quoted_itself : (out more : List ℕ) (c : ℕ) → is_printable c ≡ true → is_escaped c ≡ false
    → scan out Quoted (c ∷ more) ≡ scan (out ++ encode_lower (c ∷ [])) Quoted more
unfolding scan
quoted_itself out more c p e = let k = or_false (c == 34) (c == 92) e in rw (k.0, k.1, not_low c p) refl

first_itself : (out more : List ℕ) (c : ℕ) → is_printable c ≡ true → is_escaped c ≡ false
    → scan out Opened (c ∷ more) ≡ scan (out ++ encode_lower (c ∷ [])) Quoted more
unfolding scan
first_itself out more c p e = let k = or_false (c == 34) (c == 92) e in rw (k.0, k.1, not_low c p) refl

quoted_by : (out more : List ℕ) (c : ℕ) (b : Bool) → is_printable c ≡ true → is_escaped c ≡ b
    → scan out Quoted (quoted_byte c ++ more) ≡ scan (out ++ encode_lower (c ∷ [])) Quoted more
quoted_by out more c true p e = ap (λ bytes. scan out Quoted (bytes ++ more))
    (byte_is c true e) ∙ to_backslash out (c ∷ more) ∙ behind_backslash out more c e
quoted_by out more c false p e = ap (λ bytes. scan out Quoted (bytes ++ more)) (byte_is c false e) ∙ quoted_itself out more c p e

first_by : (out more : List ℕ) (c : ℕ) (b : Bool) → is_printable c ≡ true → is_escaped c ≡ b
    → scan out Opened (quoted_byte c ++ more) ≡ scan (out ++ encode_lower (c ∷ [])) Quoted more
first_by out more c true p e = ap (λ bytes. scan out Opened (bytes ++ more))
    (byte_is c true e) ∙ first_backslash out (c ∷ more) ∙ behind_backslash out more c e
first_by out more c false p e = ap (λ bytes. scan out Opened (bytes ++ more)) (byte_is c false e) ∙ first_itself out more c p e

-- hexadecimal digits behind others
digits_joined : (out : List ℕ) (c : ℕ) (bytes : List ℕ)
    → (out ++ encode_lower (c ∷ [])) ++ encode_lower bytes ≡ out ++ encode_lower (c ∷ bytes)
unfolding encode_with
digits_joined out c bytes = append_assoc out (encode_lower (c ∷ [])) (encode_lower bytes)

no_digits : (out : List ℕ) → out ≡ out ++ encode_lower []
unfolding encode_with
no_digits out = sym (append-nil out)

quoted_on : (bytes : List ℕ) → list_all is_printable bytes ≡ true → (out more : List ℕ)
    → scan out Quoted (flat_map quoted_byte bytes ++ more) ≡ scan (out ++ encode_lower bytes) Quoted more
quoted_on [] e out more = ap (λ o. scan o Quoted more) (no_digits out)
quoted_on (c ∷ bytes) e out more =
    let both = and_true (is_printable c) (list_all is_printable bytes) e in
    ap (scan out Quoted) (append_assoc (quoted_byte c) (flat_map quoted_byte bytes) more)
    ∙ quoted_by out (flat_map quoted_byte bytes ++ more) c _ both.0 refl
    ∙ quoted_on bytes both.1 (out ++ encode_lower (c ∷ [])) more
    ∙ ap (λ o. scan o Quoted more) (digits_joined out c bytes)

to_quote : (out more : List ℕ) → scan out Quoted (34 ∷ more) ≡ scan out Between more
unfolding scan
to_quote out more = refl

from_quote : (out more : List ℕ) → scan out Between (34 ∷ more) ≡ scan (parted out) Opened more
unfolding scan
from_quote out more = refl

empty_text : (out more : List ℕ) → scan out Opened (34 ∷ more) ≡ scan (out ++ 45 ∷ []) Between more
unfolding scan
empty_text out more = refl

opened_on : (bytes : List ℕ) → list_all is_printable bytes ≡ true → (out more : List ℕ)
    → scan out Opened (flat_map quoted_byte bytes ++ 34 ∷ more) ≡ scan (out ++ bytes_word bytes) Between more
opened_on [] e out more = empty_text out more
opened_on (c ∷ bytes) e out more =
    let both = and_true (is_printable c) (list_all is_printable bytes) e in
    ap (scan out Opened) (append_assoc (quoted_byte c) (flat_map quoted_byte bytes) (34 ∷ more))
    ∙ first_by out (flat_map quoted_byte bytes ++ 34 ∷ more) c _ both.0 refl
    ∙ quoted_on bytes both.1 (out ++ encode_lower (c ∷ [])) (34 ∷ more)
    ∙ ap (λ o. scan o Quoted (34 ∷ more)) (digits_joined out c bytes)
    ∙ to_quote (out ++ encode_lower (c ∷ bytes)) more

text_on : (bytes : List ℕ) → list_all is_printable bytes ≡ true → (out more : List ℕ)
    → scan out Between (quoted_text bytes ++ more) ≡ scan (parted out ++ bytes_word bytes) Between more
text_on bytes e out more =
    from_quote out ((flat_map quoted_byte bytes ++ 34 ∷ []) ++ more)
    ∙ ap (scan (parted out) Opened) (append_assoc (flat_map quoted_byte bytes) (34 ∷ []) more)
    ∙ opened_on bytes e (parted out) more

-- ---- bytes in hexadecimal

digit_stands : (table : List ℕ) (k : ℕ) → all_stand table ≡ true → stands (slice_index table k) ≡ true
digit_stands [] k e = refl
digit_stands (d ∷ table) zero e = (and_true (stands d) (all_stand table) e).0
digit_stands (d ∷ table) (suc k) e = digit_stands table k (and_true (stands d) (all_stand table) e).1

both_true : (a b : Bool) → a ≡ true → b ≡ true → (a && b) ≡ true
both_true true b e f = f
both_true false b e f = absurd cc

digits_stand : (bytes : List ℕ) → all_stand (encode_lower bytes) ≡ true
unfolding encode_with
digits_stand [] = refl
digits_stand (b ∷ bytes) =
    both_true (stands (slice_index lower_digits (b / 16))) _ (digit_stands lower_digits (b / 16) refl)
    (both_true (stands (slice_index lower_digits (b % 16))) _ (digit_stands lower_digits (b % 16) refl) (digits_stand bytes))

some_digits : (b : ℕ) (bytes : List ℕ) → not (length (encode_lower (b ∷ bytes)) == 0) ≡ true
unfolding encode_with
some_digits b bytes = ap not (suc_not_zero (suc (length (encode_lower bytes))))

pub digits_bare : (b : ℕ) (bytes : List ℕ) → is_bare (encode_lower (b ∷ bytes)) ≡ true
digits_bare b bytes = both_true (not (length (encode_lower (b ∷ bytes)) == 0)) _ (some_digits b bytes) (digits_stand (b ∷ bytes))

-- ---- tokens

-- what follows a word is the same behind it and between words
abbrev pub Follows : List ℕ → Type 0
Follows more = (out : List ℕ) → scan out Bare more ≡ scan out Between more

bytes_on : (bytes : List ℕ) (printed : Bool) → list_all is_printable bytes ≡ printed → (out more : List ℕ) → Follows more
    → scan out Between ((if printed then quoted_text bytes else bytes_word bytes) ++ more)
    ≡ scan (parted out ++ bytes_word bytes) Between more
bytes_on bytes true e out more f = text_on bytes e out more
bytes_on [] false e out more f = absurd cc
bytes_on (b ∷ bytes) false e out more f = word_on (encode_lower (b ∷ bytes))
    (digits_bare b bytes) out more ∙ f (parted out ++ encode_lower (b ∷ bytes))

shown_is : (bytes : List ℕ) → shown_bytes bytes ≡ (if list_all is_printable bytes then quoted_text bytes else bytes_word bytes)
shown_is bytes = refl

token_on : (t : Token) → IsToken t → (out more : List ℕ) → Follows more
    → scan out Between (shown t ++ more) ≡ scan (parted out ++ plain t) Between more
token_on (Word word) (inl is) out more f = ap (λ w. scan out Between (w ++ more)) is ∙ colon_on out more ∙ ap
    (λ w. scan (parted out ++ w) Between more) (sym is)
token_on (Word word) (inr e) out more f = word_on word e out more ∙ f (parted out ++ word)
token_on (Bytes bytes) is out more f = bytes_on bytes (list_all is_printable bytes) refl out more f

none_follows : Follows []
unfolding scan
none_follows out = refl

gap_follows : (more : List ℕ) → Follows (32 ∷ more)
unfolding scan
gap_follows more out = refl

over_gap : (out more : List ℕ) → scan out Between (32 ∷ more) ≡ scan out Between more
unfolding scan
over_gap out more = refl

at_end : (out : List ℕ) → scan out Between [] ≡ Ok out
unfolding scan
at_end out = refl

-- ---- lines

pub some_word : (t : Token) → IsToken t → (length (plain t) == 0) ≡ false
unfolding encode_with
some_word (Word word) (inl is) = ap (λ w. length w == 0) is
some_word (Word word) (inr e) = not_true (length word == 0) (and_true (not (length word == 0)) (all_stand word) e).0
  where
    not_true : (b : Bool) → not b ≡ true → b ≡ false
    not_true true h = absurd cc
    not_true false h = refl
some_word (Bytes []) is = refl
some_word (Bytes (b ∷ bytes)) is = suc_not_zero (suc (length (encode_lower bytes)))

parted_is : (out : List ℕ) → (length out == 0) ≡ false → parted out ≡ out ++ 32 ∷ []
parted_is out e = ap (λ b. if b then out else out ++ 32 ∷ []) e

some_behind : (out word : List ℕ) → (length word == 0) ≡ false → (length (out ++ word) == 0) ≡ false
some_behind out word e = grind (arith, e, length-append out word)

-- the words of tokens in one line
abbrev pub shown_line : List Token → List ℕ
shown_line ts = join_with_byte space (map shown ts)

abbrev pub plain_words : List Token → List ℕ
plain_words ts = join_with_byte space (map plain ts)

pub joined : (out first more : List ℕ) → ((out ++ first) ++ 32 ∷ []) ++ more ≡ out ++ (first ++ 32 ∷ more)
joined out first more = append_assoc (out ++ first) (32 ∷ []) more ∙ append_assoc out first (32 ∷ more)

abbrev ok : List ℕ → Result (List ℕ) Expected
ok line = Ok line

pub line_on : (t : Token) (ts : List Token) → AreTokens (t ∷ ts) → (out : List ℕ)
    → scan out Between (shown_line (t ∷ ts)) ≡ Ok (parted out ++ plain_words (t ∷ ts))
line_on t [] are out =
    ap (scan out Between) (sym (append-nil (shown t))) ∙ token_on t are.0 out [] none_follows ∙ at_end (parted out ++ plain t)
line_on t (u ∷ ts) are out =
    let now : List ℕ = parted out ++ plain t in
    token_on t are.0 out (32 ∷ shown_line (u ∷ ts)) (gap_follows (shown_line (u ∷ ts)))
    ∙ over_gap now (shown_line (u ∷ ts))
    ∙ line_on u ts are.1 now
    ∙ ap (λ o. ok (o ++ plain_words (u ∷ ts))) (parted_is now (some_behind (parted out) (plain t) (some_word t are.0)))
    ∙ ap ok (joined (parted out) (plain t) (plain_words (u ∷ ts)))

-- ---- bytes that no word and no line has

word_has_no : (k : ℕ) → ((c : ℕ) → stands c ≡ true → (c == k) ≡ false) → (word : List ℕ) → all_stand word ≡ true → has_byte k word ≡ false
word_has_no k no_such [] e = refl
word_has_no k no_such (c ∷ word) e =
    let both = and_true (stands c) (all_stand word) e in
    rw (no_such c both.0, word_has_no k no_such word both.1) refl

plain_has_no : (t : Token) → IsToken t → has_byte 32 (plain t) ≡ false
plain_has_no (Word word) (inl is) = ap (has_byte 32) is
plain_has_no (Word word) (inr e) = word_has_no 32 (λ c s. (apart c s).gap) word (and_true (not (length word == 0)) (all_stand word) e).1
plain_has_no (Bytes []) is = refl
plain_has_no (Bytes (b ∷ bytes)) is = hex_has_no 32 (b ∷ bytes) (omega arith) (omega arith)

pub no_gaps : (ts : List Token) → AreTokens ts → list_any (has_byte 32) (map plain ts) ≡ false
no_gaps [] are = refl
no_gaps (t ∷ ts) are = rw (plain_has_no t are.0, no_gaps ts are.1) refl

not_feed : (c : ℕ) → is_printable c ≡ true → (c == 10) ≡ false
not_feed c e = let low = (and_true (nat_le 32 c) (nat_lt c 127) e).0 in grind (arith, low)

byte_has_no : (c : ℕ) (b : Bool) → is_escaped c ≡ b → is_printable c ≡ true → has_byte 10 (quoted_byte c) ≡ false
byte_has_no c true e p = ap (has_byte 10) (byte_is c true e) ∙ rw (not_feed c p) refl
byte_has_no c false e p = ap (has_byte 10) (byte_is c false e) ∙ rw (not_feed c p) refl

quoted_has_no : (bytes : List ℕ) → list_all is_printable bytes ≡ true → has_byte 10 (flat_map quoted_byte bytes) ≡ false
quoted_has_no [] e = refl
quoted_has_no (c ∷ bytes) e =
    let both = and_true (is_printable c) (list_all is_printable bytes) e in
    list_any-append (λ d. d == 10) (quoted_byte c)
    (flat_map quoted_byte bytes) ∙ rw (byte_has_no c _ refl both.0, quoted_has_no bytes both.1) refl

text_has_no : (bytes : List ℕ) (printed : Bool) → list_all is_printable bytes ≡ printed
    → has_byte 10 (if printed then quoted_text bytes else bytes_word bytes) ≡ false
text_has_no bytes true e = list_any-append (λ d. d == 10) (flat_map quoted_byte bytes) (34 ∷ []) ∙ rw (quoted_has_no bytes e) refl
text_has_no [] false e = refl
text_has_no (b ∷ bytes) false e = hex_has_no 10 (b ∷ bytes) (omega arith) (omega arith)

shown_has_no : (t : Token) → IsToken t → has_byte 10 (shown t) ≡ false
shown_has_no (Word word) (inl is) = ap (has_byte 10) is
shown_has_no (Word word) (inr e) = word_has_no 10 (λ c s. (apart c s).feed) word (and_true (not (length word == 0)) (all_stand word) e).1
shown_has_no (Bytes bytes) is = text_has_no bytes (list_all is_printable bytes) refl

pub no_feeds : (ts : List Token) → AreTokens ts → list_any (has_byte 10) (map shown ts) ≡ false
no_feeds [] are = refl
no_feeds (t ∷ ts) are = rw (shown_has_no t are.0, no_feeds ts are.1) refl
