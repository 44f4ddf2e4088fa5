-- A number is spelled in one way, and its spelling is read as the number.
use Rattle.std.proofs.Common.{◌≡◌, ℕ, ◌+◌, ◌-◌, ◌*◌, ◌^◌, ◌<◌, ◌≤◌, Bool, true, false, List, [], ◌∷◌, Option, Some, None, refl, sym, ap, ◌∙◌, arith}
use Rattle.std.proofs.lemmas.Fmt.{decimal_is_IsNumeral}
use Rattle.std.proofs.lemmas.Slice.Eq.{bytes_eq-Decides}
use Rattle.std.proofs.lemmas.Str.{digit_value_digit}
use Rattle.std.proofs.lemmas.Str.Parse.{digit_from_value}
use Rattle.std.specs.Cmp.Lexicographic.{same_text}
use Rattle.std.specs.Prelude.{if◌then◌else◌, ◌&&◌, nat_le, option_and_then}
use Rattle.std.specs.Char.{digit_value}
use Rattle.std.specs.Fmt.{decimal}
use Rattle.std.specs.Option.{unwrap_or}
use Rattle.std.specs.Str.Parse.{AllDigits, digits_value_after}
use Rattle.byte_defs.specs.Equality.{same_bytes}
use Rattle.text_defs.specs.Words.{value_behind, number_of, number_within}

-- ---- what is read

found_by : (b : Bool) (m n : ℕ) (word : List ℕ) → same_bytes (decimal m) word ≡ b → (if b then Some m else None) ≡ Some n → word ≡ decimal n
found_by true m n word e h = sym (same_text (decimal m) word (sym e)) ∙ ap (λ o. decimal (unwrap_or o 0)) h
found_by false m n word e h = absurd cc

pub number_found : (word : List ℕ) (n : ℕ) → number_of word ≡ Some n → word ≡ decimal n
unfolding number_of
number_found word n h = found_by _ (value_behind 0 word) n word refl h

-- ---- what is spelled

value_of_digits : (n : ℕ) (ds : List ℕ) → AllDigits 10 ds → value_behind n ds ≡ digits_value_after 10 n ds
unfolding value_behind
value_of_digits n [] d = refl
value_of_digits n (c ∷ cs) d =
    let k = digit_value_digit c (digit_from_value c d.0) in
    let e : 10 * n + (c - 48) ≡ n * 10 + digit_value c = omega (arith, k) in
    ap (λ m. value_behind m cs) e ∙ value_of_digits (n * 10 + digit_value c) cs d.1

pub value_of_decimal : (n : ℕ) → n < 2 ^ 64 → value_behind 0 (decimal n) ≡ n
value_of_decimal n h =
    let numeral = decimal_is_IsNumeral n h in
    value_of_digits 0 (decimal n) numeral.0.1 ∙ numeral.1

taken_by : (m n : ℕ) (word : List ℕ) → m ≡ n → word ≡ decimal n → (if same_bytes (decimal m) word then Some m else None) ≡ Some n
taken_by m n word e spelled =
    let same : same_bytes (decimal m) word ≡ true = (bytes_eq-Decides (decimal m) word).1 (ap decimal e ∙ sym spelled) in
    rw (same, e) refl

pub number_spelled : (n : ℕ) → n < 2 ^ 64 → number_of (decimal n) ≡ Some n
unfolding number_of
number_spelled n h = taken_by (value_behind 0 (decimal n)) n (decimal n) (value_of_decimal n h) refl

-- ---- between bounds

within_by : (least most n : ℕ) (o : Option ℕ) → option_and_then (λ m. if nat_le least m && nat_le m most then Some m else None) o ≡ Some n
    → (o ≡ Some n) × (least ≤ n) × (n ≤ most)
within_by least most n None h = absurd cc
within_by least most n (Some m) h = grind arith

pub number_within_found : (least most : ℕ) (word : List ℕ) (n : ℕ) → number_within least most word ≡ Some n
    → (word ≡ decimal n) × (least ≤ n) × (n ≤ most)
number_within_found least most word n h =
    let k = within_by least most n (number_of word) h in
    (number_found word n k.0, k.1, k.2)

pub number_within_spelled : (least most n : ℕ) → least ≤ n → n ≤ most → n < 2 ^ 64 → number_within least most (decimal n) ≡ Some n
number_within_spelled least most n low high small = rw (number_spelled n small) (grind arith)
