-- A list is copied place by place, or part by part.
use Rattle.std.proofs.Common.{◌≡◌, ℕ, zero, suc, ◌+◌, ◌≤◌, List, [], ◌∷◌, ◌++◌, length, drop, Some, slice_get, refl, sym, ap, ◌∙◌, subst, arith}
use Rattle.std.specs.Prelude.{option_to_list}
use Rattle.std.specs.List.{AllByRecursion}
use Rattle.std.proofs.lemmas.List.{append-nil, append_assoc}
use Rattle.sent_claims.proofs.Walks.{drop-get, drop-past}

-- a list from a place on: what stands there, and the list from the next place on
pub drop-next : {A : Type 0} (xs : List A) (i : ℕ) → drop i xs ≡ option_to_list (slice_get xs i) ++ drop (i + 1) xs
drop-next [] zero = refl
drop-next {A} [] (suc i) =
    let none : List A = [] in
    let next : suc i + 1 ≡ suc (i + 1) = omega arith in
    ap (λ n. option_to_list (slice_get none (suc i)) ++ drop n none) (sym next)
drop-next (x ∷ xs) zero = refl
drop-next (x ∷ xs) (suc i) =
    let next : suc i + 1 ≡ suc (i + 1) = omega arith in
    drop-next xs i ∙ ap (λ n. option_to_list (slice_get xs i) ++ drop n (x ∷ xs)) (sym next)

-- what holds of each element of two lists in a row holds of each element of both
pub all-parts : {A : Type 0} (P : A → Type 0) (xs ys : List A) → AllByRecursion P (xs ++ ys) → AllByRecursion P xs × AllByRecursion P ys
all-parts P [] ys all = (tt, all)
all-parts P (x ∷ xs) ys all = let rest = all-parts P xs ys all.1 in ((all.0, rest.0), rest.1)

module _ {A : Type 0} (xs : List A) (i : ℕ) where
  -- one element more is copied
  pub one-more : (out out' whole : List A) → out' ≡ out ++ option_to_list (slice_get xs i) → out ++ drop i xs ≡ whole
      → out' ++ drop (i + 1) xs ≡ whole
  one-more out out' whole put so =
      ap (λ ys. ys ++ drop (i + 1) xs) put
      ∙ append_assoc out (option_to_list (slice_get xs i)) (drop (i + 1) xs)
      ∙ ap (λ ys. out ++ ys) (sym (drop-next xs i))
      ∙ so

  -- the last one is copied
  pub at-end : (out whole : List A) → length xs ≤ i → out ++ drop i xs ≡ whole → out ≡ whole
  at-end out whole past so = sym (append-nil out) ∙ ap (λ ys. out ++ ys) (sym (drop-past xs i past)) ∙ so

  pub all-rest : (P : A → Type 0) → AllByRecursion P (drop i xs) → AllByRecursion P (drop (i + 1) xs)
  all-rest P all = (all-parts P (option_to_list (slice_get xs i)) (drop (i + 1) xs) (subst (AllByRecursion P) (drop-next xs i) all)).1

  pub all-here : (P : A → Type 0) (x : A) → slice_get xs i ≡ Some x → AllByRecursion P (drop i xs) → P x
  all-here P x at all = (let here : AllByRecursion P (x ∷ drop (i + 1) xs) = subst (AllByRecursion P) (drop-get xs i x at) all in here.0)
