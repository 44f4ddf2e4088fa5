-- Bytes are spelled in one way, and their spelling is read as these bytes.
use Rattle.std.proofs.Common.{◌≡◌, ℕ, zero, suc, ◌+◌, ◌*◌, ◌/◌, ◌%◌, ◌<◌, ◌==◌, Bool, true, false, List, [], ◌∷◌, length, Option, Some, None, Result, Ok, Err, refl, sym, ap, ◌∙◌, inl, inr, arith}
use Rattle.std.specs.Prelude.{if◌then◌else◌, ◌&&◌, nat_lt, slice_index}
use Rattle.std.specs.List.{list_any}
use Rattle.std.specs.Result.{result_ok, result_unwrap_or}
use Rattle.hex.specs.Hex.{◌>>=◌, IsBytes, decode_pairs, digit_or_error, pair_value, value_at, decode_sized, encode_lower, encode_with, hex_digit_value, lower_digits}
use Rattle.hex.proofs.HexLemmas.{decode_of-even, decode_of-ok, decode_sized-encode_lower, decode_sized-ok, decode_sized-twice}
use Rattle.hex.specs.declared.error.FromHexError.{FromHexError}
use Rattle.std.proofs.lemmas.Bool.{cases_eq, eqb-true}
use Rattle.std.specs.Option.{unwrap_or}
use Rattle.text_defs.proofs.Tests.{and_true, or_false}
use Rattle.text_defs.specs.Words.{bytes_of, is_upper_case}

-- the digit of a value
abbrev digit_of : ℕ → ℕ
digit_of v = if nat_lt v 10 then 48 + v else 87 + v

abbrev are_digits : ℕ → Bool
are_digits zero = true
are_digits (suc v) = (slice_index lower_digits v == digit_of v) && are_digits v

digit_below : (n v : ℕ) → are_digits n ≡ true → v < n → slice_index lower_digits v ≡ digit_of v
digit_below zero v t h = absurd (omega arith)
digit_below (suc n) v t h =
    let both : ((slice_index lower_digits n == digit_of n) ≡ true) × (are_digits n ≡ true) = and_true _ (are_digits n) t in
    elim (cases_eq v n) [
      | inl same ↦ rw same (eqb-true _ _ both.0)
      | inr other ↦ digit_below n v both.1 (omega arith)
    ]

-- a digit that is no upper-case letter is the digit of its value
digit_found : (c v : ℕ) → is_upper_case c ≡ false → hex_digit_value c ≡ Some v → (slice_index lower_digits v ≡ c) × (v < 16)
digit_found c v lower h =
    let k : (digit_of v ≡ c) × (v < 16) = grind arith in
    (digit_below 16 v refl k.1 ∙ k.0, k.1)

-- ---- what is read

bind_ok : {A B : Type 0} (r : Result A FromHexError) (f : A → Result B FromHexError) (y : B) → (r >>= f) ≡ Ok y
    → (x : A) × (r ≡ Ok x) × (f x ≡ Ok y)
bind_ok (Ok x) f y h = (x, refl, h)
bind_ok (Err e) f y h = absurd cc

value_found : (c i v : ℕ) (o : Option ℕ) → digit_or_error c i o ≡ Ok v → o ≡ Some v
value_found c i v (Some w) h = ap result_ok h
value_found c i v None h = absurd cc

pairs_found : (i : ℕ) (text bytes : List ℕ) → list_any is_upper_case text ≡ false → decode_pairs i text ≡ Ok bytes
    → text ≡ encode_lower bytes
unfolding decode_pairs encode_with
pairs_found i [] bytes lower h = ap (λ r. encode_lower (result_unwrap_or r [])) h
pairs_found i (a ∷ []) bytes lower h = absurd cc
pairs_found i (a ∷ b ∷ rest) bytes lower h =
    let first = or_false (is_upper_case a) _ lower in
    let second = or_false (is_upper_case b) _ first.1 in
    let byte = bind_ok (pair_value a b i) _ bytes h in
    let high = bind_ok (value_at a i) _ byte.0 byte.1 in
    let low = bind_ok (value_at b (i + 1)) _ byte.0 high.2 in
    let more = bind_ok (decode_pairs (i + 2) rest) _ bytes byte.2 in
    let d = digit_found a high.0 first.0 (value_found a i high.0 (hex_digit_value a) high.1) in
    let e = digit_found b low.0 second.0 (value_found b (i + 1) low.0 (hex_digit_value b) low.1) in
    let is : high.0 * 16 + low.0 ≡ byte.0 = ap (λ r. result_unwrap_or r 0) low.2 in
    let all : byte.0 ∷ more.0 ≡ bytes = ap (λ r. result_unwrap_or r []) more.2 in
    let front : byte.0 / 16 ≡ high.0 = omega (arith, e.1) in
    let end : byte.0 % 16 ≡ low.0 = omega (arith, e.1) in
    rw (← all, front, end, d.0, e.0) (ap (λ t. a ∷ b ∷ t) (pairs_found (i + 2) rest more.0 second.1 more.1))

ok_found : {A : Type 0} {a : A} (r : Result A FromHexError) → result_ok r ≡ Some a → r ≡ Ok a
ok_found (Ok b) h = ap (λ o. Ok (unwrap_or o b)) h
ok_found (Err e) h = absurd cc

sized_found : (n : ℕ) (text bytes : List ℕ) → list_any is_upper_case text ≡ false → decode_sized text n ≡ Ok bytes
    → (text ≡ encode_lower bytes) × ((length bytes ≡ n) × IsBytes bytes)
sized_found n text bytes lower h =
    let twice = decode_sized-ok text n bytes h in
    let read = sym (decode_sized-twice text n twice) ∙ h in
    let ok = decode_of-ok text bytes read in
    (pairs_found 0 text bytes lower (sym (decode_of-even text ok.0) ∙ read), (omega (arith, twice, ok.2), ok.3))

found_by : (n : ℕ) (text bytes : List ℕ) (upper : Bool) → list_any is_upper_case text ≡ upper
    → (if upper then None else result_ok (decode_sized text n)) ≡ Some bytes
    → (text ≡ encode_lower bytes) × ((length bytes ≡ n) × IsBytes bytes)
found_by n text bytes true upper h = absurd cc
found_by n text bytes false upper h = sized_found n text bytes upper (ok_found (decode_sized text n) h)

pub bytes_found : (n : ℕ) (word bytes : List ℕ) → bytes_of n word ≡ Some bytes
    → (word ≡ encode_lower bytes) × ((length bytes ≡ n) × IsBytes bytes)
unfolding bytes_of
bytes_found n word bytes h = found_by n word bytes _ refl h

-- ---- what is spelled

lower_at : (v : ℕ) (t : List ℕ) → list_any is_upper_case t ≡ false → is_upper_case (slice_index t v) ≡ false
lower_at v [] h = refl
lower_at zero (d ∷ t) h = (or_false (is_upper_case d) _ h).0
lower_at (suc v) (d ∷ t) h = lower_at v t (or_false (is_upper_case d) _ h).1

lower_case : (bytes : List ℕ) → list_any is_upper_case (encode_lower bytes) ≡ false
unfolding encode_with
lower_case [] = refl
lower_case (b ∷ bytes) = rw (lower_at (b / 16) lower_digits refl, lower_at (b % 16) lower_digits refl, lower_case bytes) refl

pub bytes_spelled : (n : ℕ) (bytes : List ℕ) → (length bytes ≡ n) × IsBytes bytes → bytes_of n (encode_lower bytes) ≡ Some bytes
unfolding bytes_of
bytes_spelled n bytes h = rw (lower_case bytes, decode_sized-encode_lower bytes n h.0 h.1) refl
