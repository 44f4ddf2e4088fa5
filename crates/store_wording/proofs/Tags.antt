-- Decimal digits of a number below 2^64.
use Rattle.std.proofs.Common.{◌≡◌, ℕ, ◌+◌, ◌-◌, ◌*◌, ◌^◌, ◌<◌, ◌≤◌, Bool, true, false, List, [], ◌∷◌, length, drop, get_or, Option, Some, None, refl, sym, arith}
use Rattle.std.specs.Prelude.{◌&&◌, nat_le}
use Rattle.std.specs.Fmt.{decimal}
use Rattle.std.proofs.lemmas.Bool.{le-leb, lt-leb}
use Rattle.byte_defs.specs.Equality.{same_bytes}
use Rattle.text_defs.specs.Words.{value_behind, number_within}
use Rattle.text_codec.proofs.Digits.{SoFar, fails, one_more, passes}
use Rattle.store_text_defs.specs.Requests.{last_tag}

-- digits behind a number make no smaller one
grows : (n : ℕ) (digits : List ℕ) → n ≤ value_behind n digits
unfolding value_behind
grows n [] = omega arith
grows n (d ∷ digits) = let more = grows (10 * n + (d - 48)) digits in omega (arith, more)

-- where a digit more is too much, all are
pub too_great : (n : ℕ) (word : List ℕ) (i d : ℕ) → i < length word → d ≡ get_or word i 0 - 48 → d ≤ 207 → 2 ^ 64 ≤ 10 * n + d
    → SoFar n i word → 2 ^ 64 ≤ value_behind 0 word
too_great n word i d low is few great so =
    let next = one_more n word i d low is few so in
    let more = grows (10 * n + d) (drop (i + 1) word) in
    omega (arith, great, more, next.0)

all_true : (a b c : Bool) → a ≡ true → b ≡ true → c ≡ true → true ≡ (a && b && c)
all_true true true true e f g = refl
all_true false b c e f g = absurd cc
all_true true false c e f g = absurd cc
all_true true true false e f g = absurd cc

last_false : (a b c : Bool) → c ≡ false → false ≡ (a && b && c)
last_false true true c e = sym e
last_false true false c e = refl
last_false false b c e = refl

second_false : (a b c : Bool) → b ≡ false → false ≡ (a && b && c)
second_false true b c e = sym (by b e)
  where
    by : (b : Bool) → b ≡ false → (b && c) ≡ false
    by false e = refl
    by true e = absurd cc
second_false false b c e = refl

pub tag_found : (n : ℕ) (word : List ℕ) → n ≡ value_behind 0 word → n < 2 ^ 64 → true ≡ same_bytes (decimal n) word
    → Some n ≡ number_within 0 last_tag word
unfolding last_tag
tag_found n word is small same =
    passes 0 (2 ^ 64 - 1) n word is
    (all_true (nat_le 0 n) (nat_le n (2 ^ 64 - 1)) (same_bytes (decimal n) word) (le-leb 0 n (omega arith)) (le-leb n (2 ^ 64 - 1) (omega (arith, small))) (sym same))

pub tag_other : (n : ℕ) (word : List ℕ) → n ≡ value_behind 0 word → false ≡ same_bytes (decimal n) word
    → None ≡ number_within 0 last_tag word
tag_other n word is other = fails 0 last_tag n word is (last_false (nat_le 0 n) (nat_le n last_tag) (same_bytes (decimal n) word) (sym other))

pub tag_none : (word : List ℕ) → 2 ^ 64 ≤ value_behind 0 word → None ≡ number_within 0 last_tag word
unfolding last_tag
tag_none word great =
    fails 0 (2 ^ 64 - 1) (value_behind 0 word) word refl
    (second_false (nat_le 0 (value_behind 0 word)) (nat_le (value_behind 0 word) (2 ^ 64 - 1))
    (same_bytes (decimal (value_behind 0 word)) word) (lt-leb (value_behind 0 word) (2 ^ 64 - 1) (omega (arith, great))))
