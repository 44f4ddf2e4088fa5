-- A list from a place on, and what holds of the part that is left.
use Rattle.std.proofs.Common.{◌≡◌, ℕ, suc, zero, ◌+◌, ◌<◌, ◌≤◌, List, [], ◌∷◌, length, map, drop, get_or, Some, slice_get, Bool, true, false, refl, sym, ap, ◌∙◌, subst, arith, add-one}
use Rattle.std.specs.Prelude.{◌||◌, option_map}
use Rattle.std.specs.List.{AllByRecursion, list_any}
use Rattle.std.proofs.Math.Seq.{drop-cons}

-- the list from a place on begins with what stands there
pub drop-get : {A : Type 0} (xs : List A) (i : ℕ) (x : A) → slice_get xs i ≡ Some x → drop i xs ≡ x ∷ drop (i + 1) xs
drop-get [] i x e = absurd cc
drop-get (y ∷ xs) zero x e = let same : y ≡ x = cc in ap (λ z. z ∷ xs) same
drop-get (y ∷ xs) (suc i) x e = let next : suc i + 1
    ≡ suc (i + 1) = omega arith in drop-get xs i x e ∙ ap (λ n. x ∷ drop n (y ∷ xs)) (sym next)

pub drop-at : {A : Type 0} (xs : List A) (i : ℕ) (x : A) → i < length xs → x ≡ get_or xs i x → drop i xs ≡ x ∷ drop (i + 1) xs
drop-at xs i x lt at = drop-cons xs i x lt ∙ ap (λ y. y ∷ drop (suc i) xs) (sym at) ∙ ap (λ n. x ∷ drop n xs) (sym (add-one i))

module _ {A B : Type 0} (f : A → B) (test : B → Bool) (xs : List A) (i : ℕ) (x : A) (lt : i < length xs) (at : x ≡ get_or xs i x) where
  split : list_any test (map f (drop i xs)) ≡ (test (f x) || list_any test (map f (drop (i + 1) xs)))
  split = ap (λ ys. list_any test (map f ys)) (drop-at xs i x lt at)

  pub any-passed : test (f x) ≡ false → list_any test (map f (drop i xs)) ≡ list_any test (map f (drop (i + 1) xs))
  any-passed e = split ∙ ap (λ b. b || list_any test (map f (drop (i + 1) xs))) e

  pub any-found : test (f x) ≡ true → list_any test (map f (drop i xs)) ≡ true
  any-found e = split ∙ ap (λ b. b || list_any test (map f (drop (i + 1) xs))) e

pub all-passed : {A : Type 0} (P : A → Type 0) (xs : List A) (i : ℕ) (x : A) → i < length xs → x ≡ get_or xs i x
    → AllByRecursion P (drop i xs) → P x × AllByRecursion P (drop (i + 1) xs)
all-passed P xs i x lt at all = subst (AllByRecursion P) (drop-at xs i x lt at) all

-- the list at a place, of what is made of each element
pub get-map : {A B : Type 0} (f : A → B) (xs : List A) (i : ℕ) → slice_get (map f xs) i ≡ option_map f (slice_get xs i)
get-map f [] i = refl
get-map f (x ∷ xs) zero = refl
get-map f (x ∷ xs) (suc i) = get-map f xs i

pub all-get : {A : Type 0} (P : A → Type 0) (xs : List A) (i : ℕ) (x : A) → slice_get xs i ≡ Some x → AllByRecursion P xs → P x
all-get P [] i x e all = absurd cc
all-get P (y ∷ xs) zero x e all = let same : y ≡ x = cc in subst P same all.0
all-get P (y ∷ xs) (suc i) x e all = all-get P xs i x e all.1

-- behind the end there is nothing
pub drop-past : {A : Type 0} (xs : List A) (n : ℕ) → length xs ≤ n → drop n xs ≡ []
drop-past [] n le = drop-none n
  where
    drop-none : {A : Type 0} (n : ℕ) → drop {A = A} n [] ≡ []
    drop-none zero = refl
    drop-none (suc n) = refl
drop-past (x ∷ xs) zero le = absurd (omega (arith, le))
drop-past (x ∷ xs) (suc n) le = drop-past xs n (omega (arith, le))

pub drop-number : (xs : List ℕ) (i : ℕ) → i < length xs → drop i xs ≡ get_or xs i 0 ∷ drop (i + 1) xs
drop-number xs i lt = drop-cons xs i 0 lt ∙ ap (λ n. get_or xs i 0 ∷ drop n xs) (sym (add-one i))
