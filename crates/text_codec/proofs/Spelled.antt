-- Words that spell bytes of any number, a dash where there are none.
use Rattle.std.proofs.Common.{◌≡◌, ◌≢◌, ℕ, Vec, Global, ◌<◌, Bool, true, false, nat_eq, List, [], ◌∷◌, length, Option, Some, None, Result, Ok, Err, refl, sym, ap, ◌∙◌, arith}
use Rattle.std.specs.Prelude.{codes, IfOk, if◌then◌else◌}
use Rattle.std.specs.List.{list_any}
use lib.Pointwise.{pointwise}
use Rattle.std.specs.Result.{result_ok}
use Rattle.hex.specs.Hex.{IsBytes, decode_of, encode_lower, lower_digits}
use Rattle.hex.specs.declared.error.FromHexError.{FromHexError}
use Rattle.hex.proofs.HexLemmas.{decode_of-encode_lower, decode_of-ok, decode_sized-twice, length-encode_with}
use Rattle.rp_base.proofs.Copies.{matches_itself}
use Rattle.text_defs.specs.Words.{bytes_of, is_upper_case, Spells}
use Rattle.text_defs.proofs.Bytes.{bytes_found, bytes_spelled}

-- equal bytes pass the test
differs : (a b : List ℕ) → a ≡ b → false ≡ pointwise nat_eq a b → ⊥
differs a b e other =
    let same : pointwise nat_eq a b ≡ true = rw e (matches_itself b) in
    cc (other, same)

-- what is no dash, and spells bytes, is their digits
digits : (word bytes : List ℕ) → pointwise nat_eq word (45 ∷ []) ≡ false → Spells word bytes
    → (word ≡ encode_lower bytes) × (0 < length bytes)
digits word [] other s = absurd (differs word (45 ∷ []) s.1 (sym other))
digits word (b ∷ bytes) other s = (s.1, omega arith)

-- and is decoded to them
pub decoded : (word bytes : List ℕ) → pointwise nat_eq word (45 ∷ []) ≡ false → Spells word bytes → decode_of word ≡ Ok bytes
decoded word bytes other s = ap decode_of (digits word bytes other s).0 ∙ decode_of-encode_lower bytes s.0

-- it is not empty
pub not_empty : (word bytes : List ℕ) → pointwise nat_eq word (45 ∷ []) ≡ false → Spells word bytes → length word ≡ 0 → ⊥
not_empty word bytes other s none =
    let d = digits word bytes other s in
    omega (arith, d.1, none, ap length d.0, length-encode_with lower_digits bytes)

read_lower : (upper : Bool) (o : Option (List ℕ)) (bytes : List ℕ) → upper ≡ true → (if upper then None else o) ≡ Some bytes → ⊥
read_lower true o bytes upper read = cc
read_lower false o bytes upper read = absurd cc

-- and has no letter of upper case
pub not_upper : (word bytes : List ℕ) → pointwise nat_eq word (45 ∷ []) ≡ false → Spells word bytes → list_any is_upper_case word ≡ true → ⊥
unfolding bytes_of
not_upper word bytes other s upper =
    let read : bytes_of (length bytes) word
    ≡ Some bytes = ap (bytes_of (length bytes)) (digits word bytes other s).0 ∙ bytes_spelled (length bytes) bytes (refl, s.0) in
    read_lower _ _ bytes upper read

lower_read : (upper : Bool) (r : Result (List ℕ) FromHexError) (bytes : List ℕ) → upper ≡ false → r ≡ Ok bytes
    → (if upper then None else result_ok r) ≡ Some bytes
lower_read true r bytes lower read = absurd cc
lower_read false r bytes lower read = ap result_ok read

spells : (word bytes : List ℕ) → 0 < length word → word ≡ encode_lower bytes → IsBytes bytes → Spells word bytes
spells word [] some is fits = absurd (omega (arith, some, ap length is, length-encode_with lower_digits []))
spells word (b ∷ bytes) some is fits = (fits, is)

-- some digits without letters of upper case are the spelling of what they are decoded to
lower_spells : (word bytes : List ℕ) → 0 < length word → list_any is_upper_case word ≡ false → decode_of word ≡ Ok bytes → Spells word bytes
unfolding bytes_of
lower_spells word bytes some lower read =
    let ok = decode_of-ok word bytes read in
    let sized : bytes_of (length bytes) word
    ≡ Some bytes = lower_read _ _ bytes lower (decode_sized-twice word (length bytes) ok.2 ∙ read) in
    let found = bytes_found (length bytes) word bytes sized in
    spells word bytes some found.0 ok.3

-- a dash is one byte, and hexadecimal digits are two for each
dash_is_none : (b : ℕ) (bytes : List ℕ) → codes "-" ≡ encode_lower (b ∷ bytes) → ⊥
dash_is_none b bytes e = let len = length-encode_with lower_digits (b ∷ bytes) in omega (arith, ap length e, len)

-- no digits are those of two lists of bytes
pub digits_once : (a b : List ℕ) → IsBytes a → IsBytes b → encode_lower a ≡ encode_lower b → a ≡ b
digits_once a b f g e =
    let is : Ok a ≡ Ok b = sym (decode_of-encode_lower a f) ∙ ap decode_of e ∙ decode_of-encode_lower b g in
    cc

-- no word spells two lists of bytes
pub spelled_once : (word a b : List ℕ) → Spells word a → Spells word b → a ≡ b
spelled_once word [] [] s t = refl
spelled_once word [] (b ∷ ys) s t = absurd (dash_is_none b ys (sym s.1 ∙ t.1))
spelled_once word (a ∷ xs) [] s t = absurd (dash_is_none a xs (sym t.1 ∙ s.1))
spelled_once word (a ∷ xs) (b ∷ ys) s t = digits_once (a ∷ xs) (b ∷ ys) s.0 t.0 (sym s.1 ∙ t.1)

pub bytes_read : {E : Type 0} (word : List ℕ) (r : Result (Vec ℕ Global) E) → length word ≢ 0 → list_any is_upper_case word ≡ false
    → IfOk r (λ bytes. decode_of word ≡ Ok bytes.items)
    → IfOk r (λ bytes. Spells word bytes.items)
bytes_read word (Ok bytes) some lower read = lower_spells word bytes.items (omega (arith, some)) lower read
bytes_read word (Err e) some lower read = tt
