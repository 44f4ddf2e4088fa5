-- The words of a line, and of one-time parameter sets.
use Rattle.std.proofs.Common.{◌≡◌, ℕ, ◌≤◌, List, [], ◌∷◌, length, get_or, map, true, nat_eq, Bor, Option, Some, Ok, Err, refl, sym, ap, ◌∙◌, arith}
use Rattle.std.specs.Option.{ok_or}
use Rattle.std.proofs.lemmas.Slice.Eq.{bytes_eq-Decides}
use lib.Pointwise.{pointwise}
use Rattle.std.specs.Fmt.{decimal}
use Rattle.std.proofs.lemmas.Fmt.{decimal_injective}
use Rattle.signature_defs.specs.declared.OtsType.{OtsType}
use Rattle.signature_defs.specs.LmOts.{ots_type_of, ots_typecode}
use Rattle.signature_defs.proofs.OtsLaws.{type_of_typecode, typecode_range}
use Rattle.interop_words.specs.declared.line_fault.LineFault.{LineFault}

-- ---- one-time parameter sets

pub ots_again : (ots : OtsType) (n : ℕ) → n ≤ 4 → decimal n ≡ decimal (ots_typecode ots) → ots_type_of n ≡ Some ots
ots_again ots n small e =
    let is = decimal_injective n (ots_typecode ots) (omega arith) (omega (arith, typecode_range ots)) e in
    rw is (type_of_typecode ots)

pub found_is_ok : (o : Option OtsType) (ots : OtsType) (e : LineFault) → o ≡ Some ots → ok_or o e ≡ Err e → ⊥
found_is_ok o ots e found err = absurd-ok (sym (ap (λ (x : Option OtsType). ok_or x e) found) ∙ err)
  where
    absurd-ok : Ok ots ≡ Err e → ⊥
    absurd-ok is = absurd cc

pub same_ots : (a b : OtsType) → decimal (ots_typecode a) ≡ decimal (ots_typecode b) → a ≡ b
same_ots a b e =
    let one = ots_again a (ots_typecode b) (typecode_range b).1 (sym e) in
    cc (one, type_of_typecode b)

-- ---- the words of a line

pub four : {A B : Type 0} (f : A → B) (xs : List A) (d : A) → length xs ≡ 4
    → map f xs ≡ f (get_or xs 0 d) ∷ f (get_or xs 1 d) ∷ f (get_or xs 2 d) ∷ f (get_or xs 3 d) ∷ []
four f (a ∷ b ∷ c ∷ e ∷ []) d is = refl
four f _ d is = absurd (omega arith)

pub six : {A B : Type 0} (f : A → B) (xs : List A) (d : A) → length xs ≡ 6
    → map f xs ≡ f (get_or xs 0 d) ∷ f (get_or xs 1 d) ∷ f (get_or xs 2 d) ∷ f (get_or xs 3 d) ∷ f (get_or xs 4 d) ∷ f (get_or xs 5 d) ∷ []
six f (a ∷ b ∷ c ∷ e ∷ g ∷ h ∷ []) d is = refl
six f _ d is = absurd (omega arith)

pub seven : {A B : Type 0} (f : A → B) (xs : List A) (d : A) → length xs ≡ 7
    → map f xs ≡ f (get_or xs 0 d) ∷ f (get_or xs 1 d) ∷ f (get_or xs 2 d) ∷ f (get_or xs 3 d) ∷ f (get_or xs 4 d) ∷ f (get_or xs 5 d)
    ∷ f (get_or xs 6 d) ∷ []
seven f (a ∷ b ∷ c ∷ e ∷ g ∷ h ∷ i ∷ []) d is = refl
seven f _ d is = absurd (omega arith)

-- the first word is this one
pub begun : (words rest : List (Bor (List ℕ))) (v : Bor (List ℕ)) (as_slice word : List ℕ) → words ≡ v ∷ rest
    → true ≡ pointwise nat_eq v.now as_slice → as_slice ≡ word
    → map (λ w. w.now) words ≡ word ∷ map (λ w. w.now) rest
begun words rest v as_slice word is same spelled =
    let first : v.now ≡ word = (bytes_eq-Decides v.now as_slice).0 (sym same) ∙ spelled in
    ap (map (λ (w : Bor (List ℕ)). w.now)) is ∙ ap (λ (w : List ℕ). w ∷ map (λ (u : Bor (List ℕ)). u.now) rest) first
