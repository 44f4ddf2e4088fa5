-- What holds of each element of a list.
use Rattle.std.proofs.Common.{◌≡◌, ◌≢◌, ℕ, ◌==◌, Bool, false, List, [], ◌∷◌, ◌++◌, map, AllPairs, refl}
use Rattle.std.specs.List.{AllByRecursion, list_any}
use Rattle.std.proofs.lemmas.Bool.{eqb-false, or_from, or_parts}
use Rattle.std.proofs.lemmas.List.Elements.{All-from_recursion}
use Rattle.std.proofs.lemmas.List.Quantifiers.{all_pairs_push}

module _ {X : Type 0} (P : X → Type 0) where
  pub each_push : (xs : List X) (y : X) → AllByRecursion P xs → P y → AllByRecursion P (xs ++ y ∷ [])
  each_push [] y each last = (last, tt)
  each_push (x ∷ xs) y each last = (each.0, each_push xs y each.1 last)

  pub each_weaker : (Q : X → Type 0) → ((x : X) → P x → Q x) → (xs : List X) → AllByRecursion P xs → AllByRecursion Q xs
  each_weaker Q so [] each = tt
  each_weaker Q so (x ∷ xs) each = (so x each.0, each_weaker Q so xs each.1)

  pub each_with : (Q R : X → Type 0) → ((x : X) → P x → Q x → R x) → (xs : List X) → AllByRecursion P xs → AllByRecursion Q xs
      → AllByRecursion R xs
  each_with Q R so [] ps qs = tt
  each_with Q R so (x ∷ xs) ps qs = (so x ps.0 qs.0, each_with Q R so xs ps.1 qs.1)

  pub each_of : ((x : X) → P x) → (xs : List X) → AllByRecursion P xs
  each_of all [] = tt
  each_of all (x ∷ xs) = (all x, each_of all xs)

  pub each_front : (xs ys : List X) → AllByRecursion P (xs ++ ys) → AllByRecursion P xs
  each_front [] ys each = tt
  each_front (x ∷ xs) ys each = (each.0, each_front xs ys each.1)

  pub each_back : (xs ys : List X) → AllByRecursion P (xs ++ ys) → AllByRecursion P ys
  each_back [] ys each = each
  each_back (x ∷ xs) ys each = each_back xs ys each.1

pub each_mapped : {X Y : Type 0} (P : Y → Type 0) (f : X → Y) (xs : List X) → AllByRecursion (λ x. P (f x)) xs → AllByRecursion P (map f xs)
each_mapped P f [] each = tt
each_mapped P f (x ∷ xs) each = (each.0, each_mapped P f xs each.1)

pub each_unmapped : {X Y : Type 0} (P : Y → Type 0) (f : X → Y) (xs : List X) → AllByRecursion P (map f xs)
    → AllByRecursion (λ x. P (f x)) xs
each_unmapped P f [] each = tt
each_unmapped P f (x ∷ xs) each = (each.0, each_unmapped P f xs each.1)

-- ---- tests

module _ {X : Type 0} (test : X → Bool) where
  pub each_fails : (xs : List X) → list_any test xs ≡ false → AllByRecursion (λ x. test x ≡ false) xs
  each_fails [] e = tt
  each_fails (x ∷ xs) e = let parts = or_parts (test x) (list_any test xs) e in (parts.0, each_fails xs parts.1)

  pub none_passes : (xs : List X) → AllByRecursion (λ x. test x ≡ false) xs → list_any test xs ≡ false
  none_passes [] each = refl
  none_passes (x ∷ xs) each = or_from (test x) (list_any test xs) each.0 (none_passes xs each.1)

-- a member unlike those before it
pub distinct_push : (xs : List ℕ) (y : ℕ) → AllPairs (λ m n. m ≢ n) xs → list_any (λ x. x == y) xs ≡ false
    → AllPairs (λ m n. m ≢ n) (xs ++ y ∷ [])
distinct_push xs y distinct new =
    let each = each_weaker (λ x. (x == y) ≡ false) (λ x. x ≢ y) (λ x. eqb-false x y) xs (each_fails (λ x. x == y) xs new) in
    all_pairs_push (λ m n. m ≢ n) xs y distinct (All-from_recursion (λ x. x ≢ y) xs each)
