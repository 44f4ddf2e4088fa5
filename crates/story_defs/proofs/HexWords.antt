-- A word in hexadecimal is read as the bytes that it spells, and as no others.
use Rattle.std.proofs.Common.{◌≡◌, ℕ, ◌+◌, ◌*◌, ◌/◌, ◌==◌, Bool, true, false, List, [], ◌∷◌, length, Option, Some, None, refl, sym, ap, ◌∙◌, inl, inr, arith}
use Rattle.std.specs.Prelude.{codes, if◌then◌else◌}
use Rattle.std.proofs.lemmas.Slice.Eq.{bytes_eq-Decides}
use Rattle.std.proofs.lemmas.Bool.{eqb-true}
use Rattle.hex.specs.Hex.{IsBytes, encode_lower, lower_digits}
use Rattle.hex.proofs.HexLemmas.{length-encode_with}
use Rattle.byte_defs.specs.Equality.{same_bytes}
use Rattle.text_defs.specs.Words.{bytes_of, bytes_word, Spells}
use Rattle.text_defs.proofs.Bytes.{bytes_found, bytes_spelled}
use Rattle.story_defs.specs.Words.{hex_word}

-- ---- equal words

pub same_is : (a b : List ℕ) → same_bytes a b ≡ true → a ≡ b
same_is a b e = (bytes_eq-Decides a b).0 e

pub is_same : (a b : List ℕ) → a ≡ b → same_bytes a b ≡ true
is_same a b e = (bytes_eq-Decides a b).1 e

by_false : (b : Bool) → (b ≡ true → ⊥) → b ≡ false
by_false true h = absurd (h refl)
by_false false h = refl

pub other : (a b : List ℕ) → (a ≡ b → ⊥) → same_bytes a b ≡ false
other a b h = by_false (same_bytes a b) (λ e. h (same_is a b e))

-- ---- what is spelled

chosen : (dash empty : Bool) (o : Option (List ℕ)) (bytes : List ℕ) → dash ≡ false → empty ≡ false → o ≡ Some bytes
    → (if dash then Some [] else (if empty then None else o)) ≡ Some bytes
chosen true empty o bytes d e is = absurd cc
chosen false true o bytes d e is = absurd cc
chosen false false o bytes d e is = is

pub hex_again : (bytes : List ℕ) → IsBytes bytes → hex_word (bytes_word bytes) ≡ Some bytes
unfolding hex_word
hex_again [] fits = refl
hex_again (b ∷ bytes) fits =
    let all : List ℕ = b ∷ bytes in
    let len : length (encode_lower all) ≡ 2 * length all = length-encode_with lower_digits all in
    let half : length (encode_lower all) / 2 ≡ length all = omega (arith, len) in
    let read : bytes_of (length (encode_lower all) / 2) (encode_lower all) ≡ Some all =
    ap (λ n. bytes_of n (encode_lower all)) half ∙ bytes_spelled (length all) all (refl, fits) in
    chosen _ _ _ all (other (encode_lower all) (codes "-") (λ e. omega (arith, len, ap length e))) (grind (arith, len)) read

pub spelled_again : (word bytes : List ℕ) → Spells word bytes → hex_word word ≡ Some bytes
spelled_again word bytes s = ap hex_word s.1 ∙ hex_again bytes s.0

-- ---- what is read

found_by : (dash empty : Bool) (word bytes : List ℕ) → same_bytes word (codes "-") ≡ dash → (length word == 0) ≡ empty
    → (if dash then Some [] else (if empty then None else bytes_of (length word / 2) word)) ≡ Some bytes → Spells word bytes
found_by true empty word [] d e is = (λ i. grind arith, same_is word (codes "-") d)
found_by true empty word (b ∷ bytes) d e is = absurd cc
found_by false true word bytes d e is = absurd cc
found_by false false word [] d e is =
    let found = bytes_found (length word / 2) word [] is in
    absurd (grind (arith, ap length found.0, length-encode_with lower_digits [], e))
found_by false false word (b ∷ bytes) d e is =
    let found = bytes_found (length word / 2) word (b ∷ bytes) is in
    (found.1.1, found.0)

pub hex_found : (word bytes : List ℕ) → hex_word word ≡ Some bytes → Spells word bytes
unfolding hex_word
hex_found word bytes is = found_by _ _ word bytes refl refl is

none_by : (o : Option (List ℕ)) → ((bytes : List ℕ) → o ≡ Some bytes → ⊥) → o ≡ None
none_by None h = refl
none_by (Some bytes) h = absurd (h bytes refl)

pub hex_none : (word : List ℕ) → ((bytes : List ℕ) → Spells word bytes → ⊥) → hex_word word ≡ None
hex_none word h = none_by (hex_word word) (λ bytes is. h bytes (hex_found word bytes is))
