-- Tests of all elements of a list, one after the other.
use Rattle.std.proofs.Common.{◌≡◌, ℕ, zero, suc, ◌+◌, ◌<◌, Bool, true, false, cond, ◌&&◌, ◌||◌, not, List, [], ◌∷◌, length, take, get_or, map, refl, sym, ap, ◌∙◌, arith}
use Rattle.std.specs.Prelude.{filter}
use Rattle.std.specs.List.{list_all, flat_map}
use Rattle.std.proofs.lemmas.List.Folds.{list_all-append, list_all_more}

module _ {X : Type 0} (test : X → Bool) where
  -- so far all pass, and the next one does
  pub passes_next : (xs : List X) (i : ℕ) (x : X) → i < length xs → x ≡ get_or xs i x → list_all test (take i xs) ≡ true → test x ≡ true
      → list_all test (take (i + 1) xs) ≡ true
  passes_next xs i x low at so_far here = list_all_more test xs i x low ∙ ((λ j. so_far j && test (sym at j)) ∙ here)

  -- one does not
  pub one_fails : (xs : List X) (i : ℕ) (x : X) → i < length xs → x ≡ get_or xs i x → test x ≡ false → list_all test xs ≡ false
  one_fails [] i x low at fails = absurd (omega arith)
  one_fails (y ∷ ys) zero x low at fails = ap (λ b. b && list_all test ys) (ap test (sym at) ∙ fails)
  one_fails (y ∷ ys) (suc i) x low at fails = ap (λ b. test y && b) (one_fails ys i x (omega arith) at fails) ∙ and_false (test y)
    where
      and_false : (b : Bool) → (b && false) ≡ false
      and_false true = refl
      and_false false = refl

-- of a list whose first element is at hand
module _ {X : Type 0} (test : X → Bool) where
  pub first_passes : (xs ys : List X) (x : X) → xs ≡ x ∷ ys → test x ≡ true → list_all test ys ≡ list_all test xs
  first_passes xs ys x is passes = sym (ap (list_all test) is ∙ ap (λ b. b && list_all test ys) passes)

  pub first_fails : (xs ys : List X) (x : X) → xs ≡ x ∷ ys → test x ≡ false → list_all test xs ≡ false
  first_fails xs ys x is fails = ap (list_all test) is ∙ ap (λ b. b && list_all test ys) fails

  pub none_left : (xs : List X) → xs ≡ [] → list_all test xs ≡ true
  none_left xs is = ap (list_all test) is

-- list by list
pub list_by_list : {X Y : Type 0} (test : Y → Bool) (f : X → List Y) (xs : List X)
    → list_all test (flat_map f xs) ≡ list_all (λ x. list_all test (f x)) xs
list_by_list test f [] = refl
list_by_list test f (x ∷ xs) = list_all-append test (f x) (flat_map f xs) ∙ ap (λ b. list_all test (f x) && b) (list_by_list test f xs)

-- those that are chosen, list by list
pub chosen_by_list : {X Y Z : Type 0} (chosen : X → Bool) (of : X → Z) (f : Z → List Y) (test : Y → Bool) (xs : List X)
    → list_all test (flat_map f (map of (filter chosen xs))) ≡ list_all (λ x. not (chosen x) || list_all test (f (of x))) xs
chosen_by_list chosen of f test [] = refl
chosen_by_list chosen of f test (x ∷ xs) = go (chosen x) (chosen_by_list chosen of f test xs)
  where
    go : (b : Bool) → list_all test (flat_map f (map of (filter chosen xs))) ≡ list_all (λ y. not (chosen y) || list_all test (f (of y))) xs
        → list_all test (flat_map f (map of (cond b (x ∷ filter chosen xs) (filter chosen xs))))
        ≡ ((not b || list_all test (f (of x))) && list_all (λ y. not (chosen y) || list_all test (f (of y))) xs)
    go true rest = list_all-append test (f (of x)) (flat_map f (map of (filter chosen xs))) ∙ ap (λ b. list_all test (f (of x)) && b) rest
    go false rest = rest
