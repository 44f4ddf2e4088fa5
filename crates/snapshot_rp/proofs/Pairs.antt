-- Pairs that rise, by a key that is made of their plain data.
use Rattle.std.proofs.Common.{◌≡◌, ℕ, Bool, true, false, List, [], ◌∷◌, length, map, Ok, Err, refl, sym, ap, ◌∙◌}
use Rattle.std.specs.Prelude.{◌&&◌}
use Rattle.byte_defs.specs.Orders.{numbers_below}
use Rattle.snapshot_defs.specs.Steps.{Step, tested}
use Rattle.snapshot_defs.specs.Reading.{rises}

rises_plain : {X A : Type 0} (view : X → A) (key : A → List ℕ) (xs : List X) → rises (λ x. key (view x)) xs ≡ rises key (map view xs)
rises_plain view key [] = refl
rises_plain view key (x ∷ []) = refl
rises_plain view key (x ∷ y ∷ ys) = ap (λ b. numbers_below (key (view x)) (key (view y)) && b) (rises_plain view key (y ∷ ys))

-- a list of pairs that was read, and the test of them
module _ {X A : Type 0} (view : X → A) (key : A → List ℕ) (step : List ℕ → Step (List A)) (bytes rest : List ℕ) (xs slice : List X)
    (read : step bytes ≡ Ok (map view xs, rest)) (same : slice ≡ xs) where
  tested_so : (b : Bool) → b ≡ rises (λ x. key (view x)) slice → rises key (map view xs) ≡ b
  tested_so b is = sym (is ∙ ap (rises (λ x. key (view x))) same ∙ rises_plain view key xs)

  pub risen : (b : Bool) → b ≡ rises (λ x. key (view x)) slice → b ≡ true → tested (rises key) step bytes ≡ Ok (map view xs, rest)
  risen b is t = rw (read, tested_so b is ∙ t) refl

  pub not_risen : (b : Bool) → b ≡ rises (λ x. key (view x)) slice → b ≡ false → tested (rises key) step bytes ≡ Err (length bytes)
  not_risen b is t = rw (read, tested_so b is ∙ t) refl
