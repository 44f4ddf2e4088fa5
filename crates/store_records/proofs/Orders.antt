-- The order of the definitions is that of `<` on byte slices, and of the keys of a map.
use Rattle.std.proofs.Common.{◌≡◌, ℕ, List, [], ◌∷◌, Bool, true, false, refl, Ordering, Less, Equal, Greater, Some, ap, sym, ◌∙◌}
use Rattle.std.specs.Prelude.{◌&&◌, ◌||◌, ◌==◌, nat_lt, cond}
use Rattle.std.specs.Ordering.{is_lt, is_some_and, nat_cmp, ordering_then}
use Rattle.std.specs.Cmp.Lexicographic.{slice_cmp, slice_partial_cmp, lists_agrees}
use Rattle.byte_defs.specs.Orders.{numbers_below}

pub below-slice_cmp : (a b : List ℕ) → numbers_below a b ≡ is_lt (slice_cmp nat_cmp a b)
below-slice_cmp [] [] = refl
below-slice_cmp [] (n ∷ ns) = refl
below-slice_cmp (m ∷ ms) [] = refl
below-slice_cmp (m ∷ ms) (n ∷ ns) = go (nat_lt m n) (m == n) (numbers_below ms ns) (slice_cmp nat_cmp ms ns) (below-slice_cmp ms ns)
  where
    go : (l e t : Bool) (o : Ordering) → t ≡ is_lt o
        → (l || (e && t)) ≡ is_lt (ordering_then (cond l Less (cond e Equal Greater)) o)
    go true e t o is = refl
    go false true t o is = is
    go false false t o is = refl

pub below-partial_cmp : (a b : List ℕ) → numbers_below a b ≡ is_some_and is_lt (slice_partial_cmp (λ x y. Some (nat_cmp x y)) a b)
below-partial_cmp a b = below-slice_cmp a b ∙ ap (is_some_and is_lt) (sym (lists_agrees {R = nat_cmp} (λ x y. refl) a b))
