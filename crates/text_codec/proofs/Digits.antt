-- Decimal digits, one after the other, and the numbers that they can make.
use Rattle.std.proofs.Common.{◌≡◌, ℕ, zero, suc, ◌+◌, ◌-◌, ◌*◌, ◌^◌, ◌<◌, ◌≤◌, Bool, true, false, List, [], ◌∷◌, length, drop, get_or, Option, Some, None, refl, ap, ◌∙◌, arith}
use Rattle.std.specs.Prelude.{◌&&◌, if◌then◌else◌, nat_le, option_and_then}
use Rattle.std.proofs.Math.Nat.{pow-suc}
use Rattle.std.proofs.lemmas.List.{drop_all}
use Rattle.std.proofs.lemmas.Fmt.{length-decimal-le}
use Rattle.std.specs.Fmt.{decimal}
use Rattle.byte_defs.specs.Equality.{same_bytes}
use Rattle.text_defs.specs.Words.{value_behind, number_of, number_within}
use Rattle.text_defs.proofs.Numbers.{number_within_found}

-- ---- the value

from_digit : (n : ℕ) (word : List ℕ) (i : ℕ) → i < length word
    → value_behind (10 * n + (get_or word i 0 - 48)) (drop (suc i) word) ≡ value_behind n (drop i word)
unfolding value_behind
from_digit n [] i h = absurd (omega arith)
from_digit n (d ∷ word) zero h = refl
from_digit n (d ∷ word) (suc i) h = from_digit n word i (omega arith)

-- the digits that are left make the value of all, and a byte counts for at most 207, 9 times 23
abbrev pub SoFar : ℕ → ℕ → List ℕ → Type 0
SoFar n i word = (value_behind n (drop i word) ≡ value_behind 0 word) × (n + 23 ≤ 23 * 10 ^ i)

pub one_more : (n : ℕ) (word : List ℕ) (i d : ℕ) → i < length word → d ≡ get_or word i 0 - 48 → d ≤ 207 → SoFar n i word
    → SoFar (10 * n + d) (i + 1) word
one_more n word i d l is few h =
    let step : i + 1 ≡ suc i = omega arith in
    (rw (is, step) (from_digit n word i l ∙ h.0), rw step (omega (arith, h.1, few, pow-suc 10 i)))

pub whole : (n : ℕ) (word : List ℕ) (i : ℕ) → length word ≤ i → SoFar n i word → n ≡ value_behind 0 word
unfolding value_behind
whole n word i l h = let none : drop i word ≡ [] = drop_all i word l in rw none at h.0

-- ---- the number

none_else : (o : Option ℕ) → ((n : ℕ) → o ≡ Some n → ⊥) → None ≡ o
none_else None h = refl
none_else (Some n) h = absurd (h n refl)

-- a number below 2 ^ 32 has at most ten digits
pub too_long : (least most : ℕ) (word : List ℕ) → 10 < length word → most < 2 ^ 32 → None ≡ number_within least most word
too_long least most word long high = none_else _ (λ n h.
    let k = number_within_found least most word n h in
    let few : length (decimal n) ≤ 10 = length-decimal-le 10 n (omega arith) (omega (arith, k.2)) (omega (arith, k.2)) in
    omega (arith, few, ap length k.0))

-- the value is the number where these tests pass
abbrev tests : ℕ → ℕ → ℕ → List ℕ → Bool
tests least most n word = nat_le least n && nat_le n most && same_bytes (decimal n) word

last_test : (n : ℕ) (low high same : Bool)
    → (if low && high && same then Some n else None) ≡ (if same then if low && high then Some n else None else None)
last_test n true true true = refl
last_test n true true false = refl
last_test n true false true = refl
last_test n true false false = refl
last_test n false high true = refl
last_test n false high false = refl

bounded : (least most n : ℕ) (same : Bool) → (if same then if nat_le least n && nat_le n most then Some n else None else None)
    ≡ option_and_then (λ m. if nat_le least m && nat_le m most then Some m else None) (if same then Some n else None)
bounded least most n true = refl
bounded least most n false = refl

by_tests : (least most n : ℕ) (word : List ℕ) → n ≡ value_behind 0 word
    → (if tests least most n word then Some n else None) ≡ number_within least most word
unfolding number_of
by_tests least most n word is = last_test n (nat_le least n) (nat_le n most) (same_bytes (decimal n) word)
    ∙ bounded least most n (same_bytes (decimal n) word)
    ∙ ap (λ m. option_and_then (λ k. if nat_le least k && nat_le k most then Some k else None)
    (if same_bytes (decimal m) word then Some m else None)) is

pub passes : (least most n : ℕ) (word : List ℕ) → n ≡ value_behind 0 word → true ≡ tests least most n word
    → Some n ≡ number_within least most word
passes least most n word is t = ap (λ b. if b then Some n else None) t ∙ by_tests least most n word is

pub fails : (least most n : ℕ) (word : List ℕ) → n ≡ value_behind 0 word → false ≡ tests least most n word
    → None ≡ number_within least most word
fails least most n word is t = ap (λ b. if b then Some n else None) t ∙ by_tests least most n word is
