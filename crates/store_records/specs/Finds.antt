-- What a reader answers that has one fault.
use Rattle.std.specs.Prelude.{◌≡◌, Option, Some, None, Result, Ok, Err}

-- what was found, seen by the view, is what reading gives, and nothing was found where it fails
abbrev pub Finds : {X Y : Type 0} → (X → Y) → Option X → Result Y (Unit {0}) → Type 0
Finds view (Some x) read = read ≡ Ok (view x)
Finds view None read = read ≡ Err tt
