-- The last of a list.
use Rattle.std.proofs.Common.{◌≡◌, ℕ, zero, suc, List, [], ◌∷◌, ◌++◌, map, length, refl, ap, ◌∙◌, arith, get_or}
use Rattle.std.specs.Prelude.{slice_set}

not-longer : {B : Type 0} (x y : B) (xs before : List B) (last : B) → x ∷ y ∷ xs ≡ last ∷ [] → ⊥
not-longer x y xs before last e = cc

not-one : {B : Type 0} (x : B) (before : List B) (last : B) → [] ≡ before ++ last ∷ [] → ⊥
not-one x [] last e = cc
not-one x (y ∷ before) last e = cc

tail-is : {B : Type 0} (x y : B) (xs ys : List B) → x ∷ xs ≡ y ∷ ys → xs ≡ ys
tail-is x y xs ys e = cc

-- the last is changed
pub last-changed : {A B : Type 0} (f : A → B) (xs : List A) (n : ℕ) (h g : A) (before : List B) (last : B) → suc n ≡ length xs
    → h ≡ get_or xs n h → map f xs ≡ before ++ last ∷ []
    → (f h ≡ last) × (map f (slice_set xs n g) ≡ before ++ f g ∷ [])
last-changed f [] n h g before last count at e = absurd (omega (arith, count))
last-changed f (x ∷ y ∷ xs) zero h g before last count at e = absurd (omega (arith, count))
last-changed f (x ∷ []) (suc n) h g before last count at e = absurd (omega (arith, count))
last-changed f (x ∷ []) zero h g [] last count at e = ((let is : f x ≡ last = cc in ap f at ∙ is), refl)
last-changed f (x ∷ []) zero h g (b ∷ before) last count at e = absurd (not-one b before last (tail-is (f x) b [] (before ++ last ∷ []) e))
last-changed f (x ∷ y ∷ xs) (suc n) h g [] last count at e = absurd (not-longer (f x) (f y) (map f xs) [] last e)
last-changed f (x ∷ y ∷ xs) (suc n) h g (b ∷ before) last count at e =
    let rest = last-changed f (y ∷ xs) n h g before last (omega (arith, count)) at
    (tail-is (f x) b (map f (y ∷ xs)) (before ++ last ∷ []) e) in
    let head : f x ≡ b = cc in
    (rest.0, λ i. head i ∷ rest.1 i)
