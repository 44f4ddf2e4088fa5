-- A rising list that a number is put into, and a list sorted.
use Rattle.std.proofs.Common.{◌≡◌, ◌⊎◌, inl, inr, ℕ, suc, List, [], ◌∷◌, length, Bool, true, false, refl, ap, ◌∙◌}
use Rattle.std.specs.Prelude.{if◌then◌else◌, ◌&&◌, ◌||◌, ◌==◌, nat_lt}
use Rattle.group_defs.specs.Below.{numbers_below, put, sorted}
use Rattle.pool_laws.proofs.Members.{Mem}

pub mem-put : {A : Type 0} (key : A → List ℕ) (a : A) (xs : List A) (y : A) → Mem y (put key a xs) → (a ≡ y) ⊎ Mem y xs
mem-put key a [] y (inl e) = inl e
mem-put key a [] y (inr m) = absurd m
mem-put {A} key a (x ∷ xs) y m = go (numbers_below (key a) (key x)) m (mem-put key a xs y)
  where
    go : (b : Bool) → Mem y (if b then a ∷ x ∷ xs else x ∷ put key a xs) → (Mem y (put key a xs) → (a ≡ y) ⊎ Mem y xs)
        → (a ≡ y) ⊎ Mem y (x ∷ xs)
    go true (inl e) rest = inl e
    go true (inr m) rest = inr m
    go false (inl e) rest = inr (inl e)
    go false (inr m) rest = elim (rest m) [ inl e ↦ inl e | inr n ↦ inr (inr n) ]

pub mem-sorted : {A : Type 0} (key : A → List ℕ) (xs : List A) (y : A) → Mem y (sorted key xs) → Mem y xs
mem-sorted key [] y m = absurd m
mem-sorted key (x ∷ xs) y m = elim (mem-put key x (sorted key xs) y m) [ inl e ↦ inl e | inr n ↦ inr (mem-sorted key xs y n) ]

-- the process's number is its key
abbrev pub by_number : ℕ → List ℕ
by_number p = p ∷ []

-- of two different numbers one is the lower
pub below-by_number : (p q : ℕ) → numbers_below (by_number p) (by_number q) ≡ nat_lt p q
below-by_number p q = go (nat_lt p q) (p == q)
  where
    go : (c d : Bool) → (c || (d && false)) ≡ c
    go true d = refl
    go false true = refl
    go false false = refl

length-put : {A : Type 0} (key : A → List ℕ) (a : A) (xs : List A) → length (put key a xs) ≡ suc (length xs)
length-put key a [] = refl
length-put key a (x ∷ xs) = go (numbers_below (key a) (key x)) (length-put key a xs)
  where
    go : (b : Bool) → length (put key a xs) ≡ suc (length xs) → length (if b then a ∷ x ∷ xs else x ∷ put key a xs) ≡ suc (suc (length xs))
    go true rest = refl
    go false rest = ap suc rest

pub length-sorted : {A : Type 0} (key : A → List ℕ) (xs : List A) → length (sorted key xs) ≡ length xs
length-sorted key [] = refl
length-sorted key (x ∷ xs) = length-put key x (sorted key xs) ∙ ap suc (length-sorted key xs)
