-- What looking for the signatures of an entry answers.
use Rattle.std.specs.Prelude.{◌≡◌, ℕ, List, [], Option, Some, None, Result, Ok, Err}

-- what was found, seen by the view, is what reading gives, and nothing was found where it fails
abbrev pub Finds : {X Y : Type 0} → (X → Y) → Option X → Result Y (Unit {0}) → Type 0
Finds view (Some x) read = read ≡ Ok (view x)
Finds view None read = read ≡ Err tt

-- the list that was read, or the empty one
abbrev pub items_of : {X : Type 0} → Result (List X × List ℕ) (Unit {0}) → List X
items_of (Ok x) = x.0
items_of (Err e) = []
