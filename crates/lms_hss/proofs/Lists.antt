-- What holds of each element of a list, with its place, after a write and after a push.
use Rattle.std.proofs.Common.{◌≡◌, ℕ, ◌<◌, ◌≤◌, List, [], ◌∷◌, ◌++◌, Some, length, get_or, set, length-set, get_or-set_same, get_or-set_other, length-append, refl, sym, ◌∙◌, subst, arith, ⊎_elim}
use Rattle.std.specs.List.{slice_get}
use Rattle.std.proofs.lemmas.Bool.{cases_eq, cases_lt}
use Rattle.std.proofs.lemmas.Option.{get_or_from_slice_get, slice_get_read, slice_get_within}
use Rattle.std.proofs.Math.ListN.{get_or-append}
use Rattle.std.proofs.Math.Seq.{get_or-append_seam}

-- the others keep it, and the new one has it
pub each_after_set : {X : Type 0} (P : ℕ → X → Type 0) (xs : List X) (i : ℕ) (y : X)
    → ((d : ℕ) (x : X) → slice_get xs d ≡ Some x → (d ≡ i → ⊥) → P d x) → P i y
    → (d : ℕ) (x : X) → slice_get (set xs i y) d ≡ Some x → P d x
each_after_set {X} P xs i y others new d x is = ⊎_elim same other (cases_eq d i)
  where
    within : d < length xs
    within = omega (arith, slice_get_within (set xs i y) d x is, length-set xs i y)

    read : get_or (set xs i y) d x ≡ x
    read = get_or_from_slice_get (set xs i y) d x x is

    same : d ≡ i → P d x
    same e =
        let here : y ≡ x = sym (get_or-set_same xs i y x (rw e at within)) ∙ (rw e at read) in
        let Q : X → Type 0 = λ z. P d z in
        subst Q here (rw e new)

    other : (d ≡ i → ⊥) → P d x
    other ne = others d x (slice_get_read xs (length xs) d x refl within (sym (sym (get_or-set_other xs i d y x ne) ∙ read))) ne

pub each_after_push : {X : Type 0} (P : ℕ → X → Type 0) (xs : List X) (y : X)
    → ((d : ℕ) (x : X) → slice_get xs d ≡ Some x → P d x) → P (length xs) y
    → (d : ℕ) (x : X) → slice_get (xs ++ y ∷ []) d ≡ Some x → P d x
each_after_push {X} P xs y before new d x is = ⊎_elim earlier last (cases_lt d (length xs))
  where
    read : get_or (xs ++ y ∷ []) d x ≡ x
    read = get_or_from_slice_get (xs ++ y ∷ []) d x x is

    earlier : d < length xs → P d x
    earlier lt = before d x (slice_get_read xs (length xs) d x refl lt (sym (sym (get_or-append xs (y ∷ []) x d lt) ∙ read)))

    last : length xs ≤ d → P d x
    last le =
        let at : d ≡ length xs = omega (arith, slice_get_within (xs ++ y ∷ []) d x is, length-append xs (y ∷ [])) in
        let here : y ≡ x = sym (get_or-append_seam xs y [] x) ∙ (rw at at read) in
        let Q : X → Type 0 = λ z. P d z in
        subst Q here (rw at new)
