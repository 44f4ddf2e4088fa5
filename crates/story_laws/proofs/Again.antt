-- What is spelled in words is read again.
use Rattle.std.proofs.Common.{◌≡◌, ◌⊎◌, inl, inr, ℕ, zero, suc, ◌+◌, ◌-◌, ◌*◌, ◌^◌, ◌<◌, ◌≤◌, ◌==◌, Bool, true, false, List, [], ◌∷◌, ◌++◌, length, map, Option, Some, None, Result, Ok, Err, refl, sym, ap, subst, ◌∙◌, arith, append_assoc, append-nil}
use Rattle.std.specs.Prelude.{if◌then◌else◌, nat_le, nat_lt, codes, filter}
use Rattle.std.specs.Fmt.{decimal}
use Rattle.std.specs.List.{AllByRecursion, range_with_len}
use Rattle.std.specs.Int.{bit_at}
use Rattle.std.specs.Option.{ok_or}
use Rattle.std.specs.Str.Parse.{AllDigits}
use Rattle.std.proofs.lemmas.Bool.{le-leb}
use Rattle.std.proofs.lemmas.Fmt.{decimal_is_IsNumeral}
use Rattle.std.proofs.lemmas.Str.Parse.{digit_from_value}
use Rattle.hex.specs.Hex.{IsBytes, encode_lower}
use Rattle.byte_defs.specs.Choices.{and_then}
use Rattle.byte_defs.specs.Equality.{same_bytes}
use Rattle.byte_defs.specs.Fields.{◌>>=◌}
use Rattle.rp_base.specs.Pids.{all_numbers, members, mask_of, put_once}
use Rattle.rp_base.specs.Masks.{mask_of-members}
use Rattle.text_defs.specs.Words.{number_within, process_of, bytes_of, bytes_word}
use Rattle.text_defs.proofs.Bytes.{bytes_spelled}
use Rattle.text_defs.proofs.Numbers.{number_within_found, number_within_spelled}
use Rattle.story_defs.specs.declared.Expected.{Expected}
use Rattle.story_defs.specs.Words.{Words, Step, hex_word, payload_of, everyone, named, next_at, said_at, number_at, process_at, payload_at, sized_at, word_at, named_at, mask_by, mask_at}
use Rattle.story_defs.specs.Texts.{Token, Word, number, numbers, mask_tokens, plain}
use Rattle.story_defs.proofs.HexWords.{hex_again, is_same, other}
use Rattle.story_laws.proofs.Scans.{AreTokens, IsWord, all_stand, is_bare, stands, suc_not_zero}

-- ---- numbers are words

both_true : (a b : Bool) → a ≡ true → b ≡ true → (if a then b else false) ≡ true
both_true true b e f = f
both_true false b e f = absurd cc

digit_stands : (c : ℕ) → 48 ≤ c → c < 58 → stands c ≡ true
digit_stands c low high = grind arith

digits_stand : (ds : List ℕ) → AllDigits 10 ds → all_stand ds ≡ true
digits_stand [] h = refl
digits_stand (d ∷ ds) h =
    let digit = digit_from_value d h.0 in
    let one : stands d ≡ true = digit_stands d (omega (arith, digit)) (omega (arith, digit)) in
    rw (one, digits_stand ds h.1) refl

bare_of : (word : List ℕ) → 0 < length word → all_stand word ≡ true → is_bare word ≡ true
bare_of [] some e = absurd (omega arith)
bare_of (c ∷ word) some e = rw (suc_not_zero (length word)) e

pub number_is : (n : ℕ) → n < 2 ^ 64 → IsWord (decimal n)
number_is n small =
    let numeral = (decimal_is_IsNumeral n small).0 in
    inr (bare_of (decimal n) numeral.0 (digits_stand (decimal n) numeral.1))

pub numbers_are : (ns : List ℕ) → AllByRecursion (λ n. n ≤ 63) ns → AreTokens (numbers ns)
numbers_are [] few = tt
numbers_are (n ∷ ns) few = (number_is n (omega (arith, few.0)), numbers_are ns few.1)

-- ---- one word

module _ (x : Expected) where
  said_again : {A : Type 0} (says : List ℕ → Option A) (word : List ℕ) (a : A) (rest : Words) → says word ≡ Some a
      → said_at x says (word ∷ rest) ≡ Ok (a, rest)
  said_again says word a rest e = ap (λ o. ok_or o x >>= λ b. (let read : Step _ = Ok (b, rest) in read)) e

  pub number_again : (least most n : ℕ) (rest : Words) → least ≤ n → n ≤ most → n < 2 ^ 64
      → number_at x least most (decimal n ∷ rest) ≡ Ok (n, rest)
  number_again least most n rest low high small = said_again (number_within least most)
      (decimal n) n rest (number_within_spelled least most n low high small)

  pub process_again : (p : ℕ) (rest : Words) → p ≤ 63 → process_at x (decimal p ∷ rest) ≡ Ok (p, rest)
  process_again p rest few = said_again process_of (decimal p) p rest (number_within_spelled 0 63 p (omega arith) few (omega (arith, few)))

  few_bytes : (most : ℕ) (bytes : List ℕ) (o : Option (List ℕ)) → o ≡ Some bytes → length bytes ≤ most
      → and_then o (λ b. if nat_le (length b) most then Some b else None) ≡ Some bytes
  few_bytes most bytes o e few = ap (λ t. and_then t (λ b. if nat_le (length b) most then Some b else None)) e ∙ rw
      (le-leb (length bytes) most few) refl

  pub payload_again : (most : ℕ) (bytes : List ℕ) (rest : Words) → IsBytes bytes → length bytes ≤ most
      → payload_at x most (bytes_word bytes ∷ rest) ≡ Ok (bytes, rest)
  payload_again most bytes rest fits few = said_again (payload_of most)
      (bytes_word bytes) bytes rest (few_bytes most bytes (hex_word (bytes_word bytes)) (hex_again bytes fits) few)

  sized_word : (n : ℕ) (bytes : List ℕ) → IsBytes bytes → length bytes ≡ suc n → bytes_of (suc n) (bytes_word bytes) ≡ Some bytes
  sized_word n [] fits e = absurd (omega (arith, e))
  sized_word n (b ∷ bytes) fits e = bytes_spelled (suc n) (b ∷ bytes) (e, fits)

  pub sized_again : (n : ℕ) (bytes : List ℕ) (rest : Words) → IsBytes bytes → length bytes ≡ suc n
      → sized_at x (suc n) (bytes_word bytes ∷ rest) ≡ Ok (bytes, rest)
  sized_again n bytes rest fits e = said_again (bytes_of (suc n)) (bytes_word bytes) bytes rest (sized_word n bytes fits e)

-- ---- sets of processes

-- rising, from this number on
abbrev pub Rising : ℕ → List ℕ → Type 0
Rising least [] = Unit {0}
Rising least (p ∷ ps) = (least ≤ p) × (p ≤ 63) × Rising (p + 1) ps

-- each is below this number
abbrev Below : ℕ → List ℕ → Type 0
Below n [] = Unit {0}
Below n (p ∷ ps) = (p < n) × Below n ps

put_last : (p : ℕ) (ps : List ℕ) → Below p ps → put_once p ps ≡ ps ++ p ∷ []
put_last p [] below = refl
put_last p (q ∷ ps) below = let less : nat_lt q p
    ≡ true = grind (arith, below.0) in rw less (ap (λ (qs : List ℕ). q ∷ qs) (put_last p ps below.1))

below_more : (n m : ℕ) (ps : List ℕ) → n ≤ m → Below n ps → Below m ps
below_more n m [] le below = tt
below_more n m (p ∷ ps) le below = (omega (arith, le, below.0), below_more n m ps le below.1)

below_last : (n : ℕ) (ps : List ℕ) (p : ℕ) → Below n ps → p < n → Below n (ps ++ p ∷ [])
below_last n [] p below less = (less, tt)
below_last n (q ∷ ps) p below less = (below.0, below_last n ps p below.1 less)

-- the words from here on name no process
abbrev pub NoneNamed : Words → Type 0
NoneNamed [] = Unit {0}
NoneNamed (word ∷ words) = process_of word ≡ None

abbrev Named : Type 0
Named = List ℕ × Words

abbrev by_first : List ℕ → List ℕ → Words → Option ℕ → Named
by_first set word more o = elim o [ None ↦ (set, word ∷ more) | Some p ↦ named (put_once p set) more ]

first_is : (set word : List ℕ) (more : Words) → named set (word ∷ more) ≡ by_first set word more (process_of word)
unfolding named
first_is set word more = refl

no_more : (set : List ℕ) (rest : Words) → NoneNamed rest → named set rest ≡ (set, rest)
unfolding named
no_more set [] none = refl
no_more set (word ∷ rest) none = first_is set word rest ∙ ap (by_first set word rest) none

all_named : (least : ℕ) (ps set : List ℕ) (rest : Words) → Rising least ps → Below least set → NoneNamed rest
    → named set (map decimal ps ++ rest) ≡ (set ++ ps, rest)
all_named least [] set rest rising below none =
    let pair : List ℕ → Named = λ s. (s, rest) in no_more set rest none ∙ ap pair (sym (append-nil set))
all_named least (p ∷ ps) set rest rising below none =
    let pair : List ℕ → Named = λ s. (s, rest) in
    let under = below_more least p set rising.0 below in
    first_is set (decimal p) (map decimal ps ++ rest)
    ∙ ap (by_first set (decimal p) (map decimal ps ++ rest)) (number_within_spelled 0 63 p (omega arith) rising.1 (omega (arith, rising.1)))
    ∙ ap (λ s. named s (map decimal ps ++ rest)) (put_last p set under)
    ∙ all_named (p + 1) ps (set ++ p ∷ []) rest rising.2
    (below_last (p + 1) set p (below_more p (p + 1) set (omega arith) under) (omega arith)) none
    ∙ ap pair (append_assoc set (p ∷ []) ps)

-- the members of a mask rise
rising_more : (a b : ℕ) (ps : List ℕ) → a ≤ b → Rising b ps → Rising a ps
rising_more a b [] le rising = tt
rising_more a b (p ∷ ps) le rising = (omega (arith, le, rising.0), rising.1, rising.2)

by_first_test : (test : ℕ → Bool) (a n : ℕ) (b : Bool) → a ≤ 63 → Rising (a + 1) (filter test (range_with_len (a + 1) n))
    → Rising a (if b then a ∷ filter test (range_with_len (a + 1) n) else filter test (range_with_len (a + 1) n))
by_first_test test a n true few more = (omega arith, few, more)
by_first_test test a n false few more = rising_more a (a + 1) _ (omega arith) more

filtered : (test : ℕ → Bool) (a n : ℕ) → a + n ≤ 64 → Rising a (filter test (range_with_len a n))
filtered test a zero few = tt
filtered test a (suc n) few = by_first_test test a n (test a) (omega (arith, few)) (filtered test (a + 1) n (omega (arith, few)))

pub members_rise : (mask : ℕ) → Rising 0 (members mask)
unfolding members all_numbers
members_rise mask = filtered (λ p. bit_at mask p == 1) 0 64 (omega arith)

pub few_members : (least : ℕ) (ps : List ℕ) → Rising least ps → AllByRecursion (λ n. n ≤ 63) ps
few_members least [] rising = tt
few_members least (p ∷ ps) rising = (rising.1, few_members (p + 1) ps rising.2)

-- ---- words that name no process

none_by : (o : Option ℕ) → ((n : ℕ) → o ≡ Some n → ⊥) → o ≡ None
none_by None h = refl
none_by (Some n) h = absurd (h n refl)

-- a word that begins with another byte than a digit
no_digit : (c : ℕ) (word : List ℕ) → 57 < c → process_of (c ∷ word) ≡ None
no_digit c word past = none_by (process_of (c ∷ word)) (λ n e.
    let found = number_within_found 0 63 (c ∷ word) n e in
    let numeral = (decimal_is_IsNumeral n (omega (arith, found.2))).0 in
    let digits : AllDigits 10 (c ∷ word) = subst (AllDigits 10) (sym found.0) numeral.1 in
    let first = digit_from_value c digits.0 in
    omega (arith, past, first))

pub colon_names : process_of (codes ":") ≡ None
colon_names = no_digit 58 [] (omega arith)

all_names : process_of (codes "all") ≡ None
all_names = no_digit 97 (codes "ll") (omega arith)

nobody_names : process_of (codes "nobody") ≡ None
nobody_names = no_digit 110 (codes "obody") (omega arith)

none_names : process_of (codes "none") ≡ None
none_names = no_digit 110 (codes "one") (omega arith)

abbrev some : ℕ → Option ℕ
some p = Some p

not_number : (p : ℕ) → p ≤ 63 → (word : List ℕ) → process_of word ≡ None → decimal p ≡ word → ⊥
not_number p few word none e =
    let says : process_of (decimal p) ≡ some p = number_within_spelled 0 63 p (omega arith) few (omega (arith, few)) in
    let both : None ≡ some p = sym none ∙ sym (ap process_of e) ∙ says in
    absurd cc

pub not_none : (p : ℕ) → p ≤ 63 → same_bytes (decimal p) (codes "none") ≡ false
not_none p few = other (decimal p) (codes "none") (not_number p few (codes "none") none_names)

-- ---- masks

pub plain_numbers : (ns : List ℕ) → map plain (numbers ns) ≡ map decimal ns
plain_numbers [] = refl
plain_numbers (n ∷ ns) = ap (λ (ws : Words). decimal n ∷ ws) (plain_numbers ns)

-- the words of a mask's tokens, and those behind them
abbrev pub mask_words : ℕ → Words → Words
mask_words mask rest = map plain (mask_tokens mask) ++ rest

module _ (x : Expected) where
  abbrev step : ℕ → Words → Step ℕ
  step mask rest = Ok (mask, rest)

  named_again : (p : ℕ) (ps : List ℕ) (rest : Words) → Rising 0 (p ∷ ps) → NoneNamed rest
      → named_at x (map decimal (p ∷ ps) ++ rest) ≡ Ok (mask_of (p ∷ ps), rest)
  named_again p ps rest rising none =
      ap (λ (r : Step ℕ). r >>= λ first. (let more : Named = named (first.0 ∷ []) first.1 in step (mask_of more.0) more.1))
      (process_again x p (map decimal ps ++ rest) rising.1)
      ∙ ap (λ (more : Named). step (mask_of more.0) more.1) (all_named (p + 1) ps (p ∷ []) rest rising.2 (omega arith, tt) none)

  by_named : (ps : List ℕ) (rest : Words) → Rising 0 ps → NoneNamed rest → (ps ≡ [] → ⊥)
      → mask_at x (codes "to" ∷ (map decimal ps ++ rest)) ≡ Ok (mask_of ps, rest)
  unfolding mask_at
  by_named [] rest rising none some = absurd (some refl)
  by_named (p ∷ ps) rest rising none some =
      rw (
        other (decimal p) (codes "all") (not_number p rising.1 (codes "all") all_names),
        other (decimal p) (codes "nobody") (not_number p rising.1 (codes "nobody") nobody_names),
      ) (named_again p ps rest rising none)

  no_members : (mask : ℕ) → mask < 2 ^ 64 → members mask ≡ [] → mask ≡ 0
  no_members mask small none = sym (mask_of-members mask small) ∙ ap mask_of none

  by_tests : (mask : ℕ) (all nobody : Bool) (rest : Words) → mask < 2 ^ 64 → NoneNamed rest → (mask == everyone) ≡ all
      → (mask == 0) ≡ nobody
      → mask_at x (codes "to" ∷ (map plain
      (if all then Word (codes "all") ∷ [] else (if nobody then Word (codes "nobody") ∷ [] else numbers (members mask))) ++ rest))
      ≡ Ok (mask, rest)
  unfolding mask_at
  by_tests mask true nobody rest small none a n = let same : everyone ≡ mask = grind (arith, a) in ap (λ m. step m rest) same
  by_tests mask false true rest small none a n = let same : 0 ≡ mask = grind (arith, n) in ap (λ m. step m rest) same
  by_tests mask false false rest small none a n =
      ap (λ (ws : Words). mask_at x (codes "to" ∷ (ws ++ rest))) (plain_numbers (members mask))
      ∙ by_named (members mask) rest (members_rise mask) none (λ e. grind (arith, no_members mask small e, n))
      ∙ ap (λ m. step m rest) (mask_of-members mask small)

  pub mask_again : (mask : ℕ) (rest : Words) → mask < 2 ^ 64 → NoneNamed rest
      → mask_at x (codes "to" ∷ mask_words mask rest) ≡ Ok (mask, rest)
  mask_again mask rest small none = by_tests mask (mask == everyone) (mask == 0) rest small none refl refl

mask_are_by : (mask : ℕ) (all nobody : Bool)
    → AreTokens (if all then Word (codes "all") ∷ [] else (if nobody then Word (codes "nobody") ∷ [] else numbers (members mask)))
mask_are_by mask true nobody = (inr refl, tt)
mask_are_by mask false true = (inr refl, tt)
mask_are_by mask false false = numbers_are (members mask) (few_members 0 (members mask) (members_rise mask))

pub mask_are : (mask : ℕ) → AreTokens (mask_tokens mask)
mask_are mask = mask_are_by mask (mask == everyone) (mask == 0)

pub are_joined : (ts us : List Token) → AreTokens ts → AreTokens us → AreTokens (ts ++ us)
are_joined [] us are more = more
are_joined (t ∷ ts) us are more = (are.0, are_joined ts us are.1 more)

pub map_joined : (ts us : List Token) → map plain (ts ++ us) ≡ map plain ts ++ map plain us
map_joined [] us = refl
map_joined (t ∷ ts) us = ap (λ (ws : Words). plain t ∷ ws) (map_joined ts us)

-- ---- bytes

pub fits_behind : (xs ys : List ℕ) → IsBytes (xs ++ ys) → IsBytes ys
fits_behind [] ys h = h
fits_behind (x ∷ xs) ys h = fits_behind xs ys (λ i. h (suc i))

pub fits_front : (xs ys : List ℕ) → IsBytes (xs ++ ys) → IsBytes xs
fits_front [] ys h i = omega arith
fits_front (x ∷ xs) ys h zero = h zero
fits_front (x ∷ xs) ys h (suc i) = fits_front xs ys (λ j. h (suc j)) i
