-- Equality that is decided, part by part.
use lib.Pointwise.{pointwise}
use Rattle.std.specs.Prelude.{ℕ, Bool, true, false, nat_eq, List, [], ◌∷◌, Option, Some, None, refl}
use native.Mathlib.Decide.{ℕ_discrete}

-- the proposition is decided, by a proof of it
abbrev pub is_yes : {P : Type 0} → Dec P → Bool
is_yes (yes p) = true
is_yes (no n) = false

-- equal where both parts are
abbrev pub both : {P Q R : Type 0} → (P → Q → R) → (R → P) → (R → Q) → Dec P → Dec Q → Dec R
both make one two (yes p) (yes q) = yes (make p q)
both make one two (yes p) (no n) = no (λ r. n (two r))
both make one two (no n) q = no (λ r. n (one r))

-- lists of numbers, number by number
unfoldable pub bytes_discrete : Discrete (List ℕ)
bytes_discrete [] [] = yes refl
bytes_discrete [] (y ∷ ys) = no (λ e. cc)
bytes_discrete (x ∷ xs) [] = no (λ e. cc)
bytes_discrete (x ∷ xs) (y ∷ ys) = both (λ p q. λ i. p i ∷ q i) (λ e. cc) (λ e. cc) (ℕ_discrete x y) (bytes_discrete xs ys)

-- lists, element by element
unfoldable pub list_discrete : {A : Type 0} → Discrete A → Discrete (List A)
list_discrete d [] [] = yes refl
list_discrete d [] (y ∷ ys) = no (λ e. cc)
list_discrete d (x ∷ xs) [] = no (λ e. cc)
list_discrete d (x ∷ xs) (y ∷ ys) = both (λ p q. λ i. p i ∷ q i) (λ e. cc) (λ e. cc) (d x y) (list_discrete d xs ys)

-- options: both none, or both some with equal values
unfoldable pub option_discrete : {A : Type 0} → Discrete A → Discrete (Option A)
option_discrete d None None = yes refl
option_discrete d None (Some b) = no (λ e. cc)
option_discrete d (Some a) None = no (λ e. cc)
option_discrete d (Some a) (Some b) = elim (d a b) [ yes p ↦ yes (λ i. Some (p i)) | no n ↦ no (λ e. n cc) ]

-- pairs, by the first part and the second
unfoldable pub pair_discrete : {A B : Type 0} → Discrete A → Discrete B → Discrete (A × B)
pair_discrete d e p q = both (λ a b. λ i. (a i, b i)) (λ r. λ i. (r i).0) (λ r. λ i. (r i).1) (d p.0 q.0) (e p.1 q.1)

-- as a slice's `==` answers
abbrev pub same_bytes : List ℕ → List ℕ → Bool
same_bytes xs ys = pointwise nat_eq xs ys
