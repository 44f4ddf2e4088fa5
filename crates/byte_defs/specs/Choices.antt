-- Choosing: the first test that holds, the first answer that there is.
use Rattle.std.specs.Prelude.{Bool, false, if◌then◌else◌, List, [], ◌∷◌, Option, Some, None, option_and_then}

-- the value beside the first test that holds
abbrev pub first_that_holds : {A : Type 0} → List (Bool × A) → Option A
first_that_holds [] = None
first_that_holds (c ∷ cs) = if c.0 then Some c.1 else first_that_holds cs

-- the second step, where the first gave a value
abbrev pub and_then : {A B : Type 0} → Option A → (A → Option B) → Option B
and_then o f = option_and_then f o

-- there is a value, and it passes the test
abbrev pub is_some_and : {A : Type 0} → Option A → (A → Bool) → Bool
is_some_and None test = false
is_some_and (Some a) test = test a

-- the first answer that there is
abbrev pub first_some : {A B : Type 0} → (A → Option B) → List A → Option B
first_some f [] = None
first_some f (x ∷ xs) = elim (f x) [ None ↦ first_some f xs | Some y ↦ Some y ]
