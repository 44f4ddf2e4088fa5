-- Lists by their last element.
use Rattle.std.proofs.Common.{◌≡◌, ℕ, zero, suc, ◌+◌, ◌-◌, ◌<◌, List, [], ◌∷◌, ◌++◌, length, map, refl, sym, ap, ◌∙◌, arith}
use Rattle.std.specs.Prelude.{slice_index_or}
use Rattle.std.proofs.lemmas.List.{append_cancel_right}
use Rattle.pool_laws.proofs.Places.{index-is, length-snoc, slice_get-last}

-- the last elements of the same list are the same
pub same-last : {A : Type 0} (xs ys : List A) (a b : A) → xs ++ a ∷ [] ≡ ys ++ b ∷ [] → a ≡ b
same-last {A = A} xs ys a b e =
    let count : suc (length xs) ≡ suc (length ys) = sym (length-snoc xs a) ∙ ap length e ∙ length-snoc ys b in
    sym (index-is (xs ++ a ∷ []) (length xs) a a (slice_get-last xs a (length xs) refl))
    ∙ ap (λ (zs : List A). slice_index_or zs (length xs) a) e
    ∙ index-is (ys ++ b ∷ []) (length xs) a b (slice_get-last ys b (length xs) (omega (arith, count)))

-- and so are those before them
pub same-front : {A : Type 0} (xs ys : List A) (a b : A) → xs ++ a ∷ [] ≡ ys ++ b ∷ [] → xs ≡ ys
same-front {A = A} xs ys a b e =
    append_cancel_right xs ys (b ∷ []) (ap (λ (x : A). xs ++ x ∷ []) (sym (same-last xs ys a b e)) ∙ e)
