-- A list of which a front stands, and what comes next.
use Rattle.std.proofs.Common.{◌≡◌, ℕ, zero, suc, ◌+◌, Bool, true, false, List, [], ◌∷◌, ◌++◌, length, drop, Option, Some, None, is_some, refl, sym, ap, ◌∙◌, append_assoc, append-nil, add-one, drop_at}
use Rattle.byte_defs.specs.Choices.{is_some_and}
use Rattle.kit_defs.specs.KitReading.{first_of}
use Rattle.text_defs.proofs.Choosing.{some_is}

pub some_and_found : {A : Type 0} (o : Option A) (test : A → Bool) → is_some_and o test ≡ true → (a : A) × (o ≡ Some a) × (test a ≡ true)
some_and_found None test e = absurd cc
some_and_found (Some a) test e = (a, refl, e)

pub none_is : {A : Type 0} (o : Option A) → is_some o ≡ false → o ≡ None
none_is None e = refl
none_is (Some a) e = absurd cc

pub first_none : {A : Type 0} (xs : List A) → first_of xs ≡ None → xs ≡ []
first_none [] e = refl
first_none (x ∷ xs) e = absurd cc

-- the first of a rest, and what is left behind it
rest_is : {A : Type 0} (n : ℕ) (all : List A) (x : A) → first_of (drop n all) ≡ Some x → drop n all ≡ x ∷ drop (suc n) all
rest_is zero [] x e = absurd cc
rest_is zero (y ∷ ys) x e = ap (λ z. z ∷ ys) (some_is y x e)
rest_is (suc n) [] x e = absurd cc
rest_is (suc n) (y ∷ ys) x e = rest_is n ys x e

pub rest_after : {A : Type 0} (n : ℕ) (all : List A) (x : A) → first_of (drop n all) ≡ Some x → drop n all ≡ x ∷ drop (n + 1) all
rest_after n all x e = rest_is n all x e ∙ ap (λ m. x ∷ drop m all) (sym (add-one n))

-- one more
pub front_push : {A : Type 0} (xs all : List A) (n : ℕ) (x : A) → xs ++ drop n all ≡ all → first_of (drop n all) ≡ Some x
    → (xs ++ x ∷ []) ++ drop (n + 1) all ≡ all
front_push xs all n x front next =
    append_assoc xs (x ∷ []) (drop (n + 1) all) ∙ ap (λ ys. xs ++ ys) (sym (rest_after n all x next)) ∙ front

-- all of them
pub front_whole : {A : Type 0} (xs all rest : List A) → xs ++ rest ≡ all → rest ≡ [] → xs ≡ all
front_whole xs all rest front none = sym (append-nil xs) ∙ ap (λ ys. xs ++ ys) (sym none) ∙ front

pub drop_all : {A : Type 0} (xs : List A) (n : ℕ) → length xs ≡ n → drop n xs ≡ []
drop_all xs n len = ap (drop n) (sym (append-nil xs)) ∙ drop_at xs [] n len
