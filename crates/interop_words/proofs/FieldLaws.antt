-- Words that spell numbers and bytes, read again.
use Rattle.std.proofs.Common.{◌≡◌, ◌≢◌, ℕ, ◌^◌, ◌<◌, ◌≤◌, Bool, true, false, not, nat_eq, List, [], ◌∷◌, map, length, get_or, Bor, Option, Some, None, Err, refl, sym, ap, ◌∙◌, arith}
use Rattle.std.specs.Prelude.{codes, IfOk, IsErrOf}
use Rattle.std.specs.Option.{ok_or}
use Rattle.std.specs.Fmt.{decimal}
use Rattle.std.proofs.lemmas.Slice.Eq.{bytes_eq-Decides}
use lib.Pointwise.{pointwise}
use Rattle.hex.specs.Hex.{encode_lower}
use Rattle.text_defs.specs.Words.{AreBytes, bytes_of, number_within}
use Rattle.text_defs.proofs.Bytes.{bytes_found, bytes_spelled}
use Rattle.text_defs.proofs.Numbers.{number_within_found, number_within_spelled}
use Rattle.interop_words.specs.declared.line_fault.LineFault.{LineFault}
use Rattle.interop_words.specs.declared.line_fault.LineFault.TheVariants.{NoQuestion}

-- ---- numbers

pub number_read : (least most : ℕ) (word : List ℕ) (o : Option ℕ) → o ≡ number_within least most word
    → IfOk (ok_or o NoQuestion) (λ n. (word ≡ decimal n) × (least ≤ n) × (n ≤ most))
number_read least most word (Some n) is = number_within_found least most word n (sym is)
number_read least most word None is = tt

pub number_none : (least most : ℕ) (word : List ℕ) (o : Option ℕ) → o ≡ number_within least most word → most < 2 ^ 32
    → IsErrOf (ok_or o NoQuestion) NoQuestion
    → (n : ℕ) → least ≤ n → n ≤ most → word ≡ decimal n → ⊥
number_none least most word (Some m) is small e n low high spelled = absurd cc
number_none least most word None is small e n low high spelled =
    let read : Some n ≡ None = sym (number_within_spelled least most n low high (omega arith)) ∙ sym
    (ap (number_within least most) spelled) ∙ sym is in
    absurd cc

-- ---- bytes

pub array_read : (n : ℕ) (word : List ℕ) (o : Option (List ℕ)) → o ≡ bytes_of n word
    → IfOk (ok_or o NoQuestion) (λ bytes. AreBytes n bytes × (word ≡ encode_lower bytes))
array_read n word (Some bytes) is = let found = bytes_found n word bytes (sym is) in (found.1, found.0)
array_read n word None is = tt

pub array_none : (n : ℕ) (word : List ℕ) (o : Option (List ℕ)) → o ≡ bytes_of n word → IsErrOf (ok_or o NoQuestion) NoQuestion
    → (bytes : List ℕ) → AreBytes n bytes → word ≡ encode_lower bytes → ⊥
array_none n word (Some found) is e bytes fits spelled = absurd cc
array_none n word None is e bytes fits spelled =
    let read : Some bytes ≡ None = sym (bytes_spelled n bytes fits) ∙ sym (ap (bytes_of n) spelled) ∙ sym is in
    absurd cc

-- bytes that pass the test are equal
pub agree : (a b : List ℕ) → false ≡ not (pointwise nat_eq a b) → a ≡ b
agree a b e = (bytes_eq-Decides a b).0 (passes (pointwise nat_eq a b) e)
  where
    passes : (t : Bool) → false ≡ not t → t ≡ true
    passes true e = refl
    passes false e = absurd cc

-- ---- a line of two words

-- a word that passes the test of equality
is_word : (a b verb : List ℕ) (r : Bool) → r ≡ pointwise nat_eq a b → r ≡ true → b ≡ verb → a ≡ verb
is_word a b verb r e passes is = (bytes_eq-Decides a b).0 (sym e ∙ passes) ∙ is

two : (ws : List (Bor (List ℕ))) (d : Bor (List ℕ)) (verb : List ℕ) → 2 ≤ length ws → length ws < 3 → (get_or ws 0 d).now ≡ verb
    → map (λ w. w.now) ws ≡ verb ∷ (get_or ws 1 d).now ∷ []
two [] d verb more less is = absurd (omega (arith, more))
two (a ∷ []) d verb more less is = absurd (omega (arith, more))
two (a ∷ b ∷ []) d verb more less is = ap (λ (v : List ℕ). v ∷ b.now ∷ []) is
two (a ∷ b ∷ c ∷ ws) d verb more less is = absurd (omega (arith, less))

-- the first of which is this verb
pub two_words : (ws : List (Bor (List ℕ))) (d : Bor (List ℕ)) (b verb : List ℕ) (r : Bool) → 2 ≤ length ws → length ws < 3
    → r ≡ pointwise nat_eq (get_or ws 0 d).now b → r ≡ true → b ≡ verb
    → map (λ w. w.now) ws ≡ verb ∷ (get_or ws 1 d).now ∷ []
two_words ws d b verb r more less e passes is = two ws d verb more less (is_word (get_or ws 0 d).now b verb r e passes is)
