-- Entries that are counted as the code has them.
use Rattle.std.proofs.Common.{◌≡◌, ◌+◌, List, map, Bool, sym, ◌∙◌}
use Rattle.std.specs.Prelude.{cond, fold, count_by}
use Rattle.std.specs.List.{sum_by}
use Rattle.std.proofs.lemmas.List.Folds.{fold-map}

count-same : {D A : Type 0} (view : D → A) (test : A → Bool) (ds : List D) → count_by (λ d. test (view d)) ds ≡ count_by test (map view ds)
count-same view test ds = sym (fold-map (λ n x. n + cond (test x) 1 0) view 0 ds)

pub counts-same : {X D A : Type 0} (view : D → A) (test : A → Bool) (of : X → List D) (xs : List X)
    → sum_by (λ x. count_by (λ d. test (view d)) (of x)) xs ≡ sum_by (λ ds. count_by test ds) (map (λ x. map view (of x)) xs)
counts-same view test of xs =
    (λ i. fold (λ n x. n + count-same view test (of x) i) 0 xs) ∙ sym (fold-map (λ n ds. n + count_by test ds) (λ x. map view (of x)) 0 xs)
