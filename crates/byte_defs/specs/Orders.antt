-- Order by a list of numbers, the first one first: the least of a list, and a list sorted.
use Rattle.std.specs.Prelude.{ℕ, Bool, true, false, ◌&&◌, ◌||◌, nat_lt, ◌==◌, if◌then◌else◌, List, [], ◌∷◌, Option, Some, None}

-- the first list comes before the second: at the first place where they differ it has the lower number, or it is the front of the other
-- and shorter
abbrev pub numbers_below : List ℕ → List ℕ → Bool
numbers_below [] [] = false
numbers_below [] (n ∷ ns) = true
numbers_below (m ∷ ms) [] = false
numbers_below (m ∷ ms) (n ∷ ns) = nat_lt m n || ((m == n) && numbers_below ms ns)

module _ {A : Type 0} (key : A → List ℕ) where
  -- the first of the least
  abbrev pub least_from : A → List A → A
  least_from a [] = a
  least_from a (x ∷ xs) = least_from (if numbers_below (key x) (key a) then x else a) xs

  -- the first of the least elements; of no elements, none
  abbrev pub least : List A → Option A
  least [] = None
  least (x ∷ xs) = Some (least_from x xs)

  -- after those that are not above it
  abbrev pub put : A → List A → List A
  put a [] = a ∷ []
  put a (x ∷ xs) = if numbers_below (key a) (key x) then a ∷ x ∷ xs else x ∷ put a xs

  -- the elements by rising keys
  abbrev pub sorted : List A → List A
  sorted [] = []
  sorted (x ∷ xs) = put x (sorted xs)
