-- One step of the walk down the levels of a signature.
use Rattle.std.proofs.Common.{◌≡◌, ℕ, zero, suc, ◌+◌, ◌<◌, false, ◌&&◌, List, length, take, drop, Option, None, Some, refl, ap, ◌∙◌, arith, length-drop}
use Rattle.std.proofs.lemmas.Bool.{and_left, and_right, ne_eqb}
use Rattle.std.proofs.lemmas.List.{length-take}
use Rattle.byte_defs.specs.Choices.{is_some_and}
use Rattle.signature_defs.specs.Strings.{part}
use Rattle.signature_defs.specs.Lms.{lms_valid}
use Rattle.signature_defs.specs.Hss.{length_under, levels_valid}

pub no_level : (key message sig : List ℕ) → levels_valid 0 key message sig ≡ lms_valid key message sig
unfolding levels_valid
no_level key message sig = refl

-- a key of known types
pub one_level : (n len : ℕ) (key message sig : List ℕ) → length_under key ≡ Some len
    → levels_valid (suc n) key message sig ≡ lms_valid key (part len 56 sig) (take len sig)
    && levels_valid n (part len 56 sig) message (drop (len + 56) sig)
unfolding levels_valid
one_level n len key message sig known = ap
    (λ o. is_some_and o (λ l. lms_valid key (part l 56 sig) (take l sig)
    && levels_valid n (part l 56 sig) message (drop (l + 56) sig))) known

-- a key of unknown types
pub unknown_level : (n : ℕ) (key message sig : List ℕ) → length_under key ≡ None → levels_valid (suc n) key message sig ≡ false
unfolding levels_valid
unknown_level n key message sig none = ap
    (λ o. is_some_and o (λ l. lms_valid key (part l 56 sig) (take l sig)
    && levels_valid n (part l 56 sig) message (drop (l + 56) sig))) none

-- nothing is valid under a key of another length
not_valid : (key message sig : List ℕ) → (length key ≡ 56 → ⊥) → lms_valid key message sig ≡ false
not_valid key message sig other = and_left _ _ (ne_eqb (length key) 56 other)

no_key : (n : ℕ) (key message sig : List ℕ) → (length key ≡ 56 → ⊥) → levels_valid n key message sig ≡ false
no_key zero key message sig other = no_level key message sig ∙ not_valid key message sig other
no_key (suc n) key message sig other = by_types (length_under key) refl
  where
    by_types : (o : Option ℕ) → length_under key ≡ o → levels_valid (suc n) key message sig ≡ false
    by_types None e = unknown_level n key message sig e
    by_types (Some len) e = one_level n len key message sig e ∙ and_left _ _ (not_valid key (part len 56 sig) (take len sig) other)

-- where a signature and a key do not fit
pub too_short : (n len : ℕ) (key message sig : List ℕ) → length_under key ≡ Some len → length sig < len + 56
    → levels_valid (suc n) key message sig ≡ false
too_short n len key message sig known short =
    let cut : length (part len 56 sig) ≡ 56 → ⊥ = λ e. omega (arith, e, length-drop len sig, length-take 56 (drop len sig)) in
    one_level n len key message sig known ∙ and_right _ _ (no_key n (part len 56 sig) message (drop (len + 56) sig) cut)
