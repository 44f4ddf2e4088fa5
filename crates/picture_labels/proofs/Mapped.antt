-- A list that is mapped.
use Rattle.std.proofs.Common.{◌≡◌, Bool, List, [], ◌∷◌, map, ◌||◌, refl, ap}
use Rattle.std.specs.List.{list_any}

-- a test of what is mapped
pub any-map : {X Y : Type 0} (f : X → Y) (p : Y → Bool) (xs : List X) → list_any p (map f xs) ≡ list_any (λ x. p (f x)) xs
any-map f p [] = refl
any-map f p (x ∷ xs) = ap (λ b. p (f x) || b) (any-map f p xs)
