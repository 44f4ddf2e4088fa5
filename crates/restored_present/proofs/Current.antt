-- What was delivered in the current view, and in those before.
use Rattle.std.proofs.Common.{◌≡◌, ℕ, ◌+◌, List, [], ◌∷◌, ◌++◌, length, map, refl, sym, ap, ◌∙◌, arith}
use Rattle.std.specs.Prelude.{slice_index_or, sum}
use Rattle.std.specs.List.{sum_by}
use Rattle.std.proofs.lemmas.List.Sums.{sum_by-cons}
use Rattle.group_defs.specs.Views.{View, next_view}
use Rattle.group_defs.specs.Process.{Delivered, Left, delivered_from}
use Rattle.image_defs.specs.Images.{LeftView, lefts_from}
use Rattle.pool_laws.proofs.Places.{length-snoc}

at-last : {A : Type 0} (xs : List A) (y d : A) → slice_index_or (xs ++ y ∷ []) (length xs) d ≡ y
at-last [] y d = refl
at-last (x ∷ xs) y d = at-last xs y d

earlier-are : (me : ℕ) (v : View) (ls : List LeftView) (xs : List (List Delivered)) (y : List Delivered) → length xs ≡ length ls
    → sum (map (λ (x : Left). delivered_from me x.delivered) (lefts_from v ls (xs ++ y ∷ []))) ≡ sum_by (λ es. delivered_from me es) xs
earlier-are me v [] [] y many = refl
earlier-are me v [] (x ∷ xs) y many = absurd (omega (arith, many))
earlier-are me v (l ∷ ls) [] y many = absurd (omega (arith, many))
earlier-are me v (l ∷ ls) (x ∷ xs) y many =
    let rest = earlier-are me (next_view v l.value.update) ls xs y (omega (arith, many)) in
    let one = sum_by-cons (λ es. delivered_from me es) x xs in
    let head = sum_by-cons (λ (n : ℕ). n) (delivered_from me x) (map (λ (x : Left). delivered_from me x.delivered) (lefts_from (next_view v l.value.update) ls (xs ++ y ∷ []))) in
    omega (arith, rest, one, head)

pub many-so : (lists : List (List Delivered)) (left : List LeftView) (xs : List (List Delivered)) (y : List Delivered) → lists ≡ xs ++ y ∷ []
    → length lists ≡ length left + 1 → length xs ≡ length left
many-so lists left xs y is many =
    let long = ap (λ (es : List (List Delivered)). length es) is ∙ length-snoc xs y in
    omega (arith, many, long)

pub now-so : (lists : List (List Delivered)) (left : List LeftView) (xs : List (List Delivered)) (y : List Delivered) → lists ≡ xs ++ y ∷ []
    → length lists ≡ length left + 1 → slice_index_or lists (length left) [] ≡ y
now-so lists left xs y is many =
    (λ j. slice_index_or (is j) (sym (many-so lists left xs y is many) j) []) ∙ at-last xs y []

sum-map : {A B : Type 0} (f : B → ℕ) (g : A → B) (xs : List A) → sum_by f (map g xs) ≡ sum_by (λ x. f (g x)) xs
sum-map f g [] = refl
sum-map f g (x ∷ xs) =
    let rest = sum-map f g xs in
    let one = sum_by-cons f (g x) (map g xs) in
    let other = sum_by-cons (λ x. f (g x)) x xs in
    omega (arith, rest, one, other)

pub earlier-so : {A : Type 0} (me : ℕ) (v : View) (left : List LeftView) (lists : List (List Delivered)) (g : A → List Delivered) (xs : List A)
    (y : List Delivered) → lists ≡ map g xs ++ y ∷ [] → length lists ≡ length left + 1
    → sum (map (λ (x : Left). delivered_from me x.delivered) (lefts_from v left lists)) ≡ sum_by (λ x. delivered_from me (g x)) xs
earlier-so me v left lists g xs y is many =
    ap (λ (es : List (List Delivered)). sum (map (λ (x : Left). delivered_from me x.delivered) (lefts_from v left es))) is
    ∙ earlier-are me v left (map g xs) y (many-so lists left (map g xs) y is many)
    ∙ sum-map (λ es. delivered_from me es) g xs
