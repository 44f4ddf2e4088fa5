-- How what a reader of the code answers relates to reading on lists. A view says what a value of the code is.
use Rattle.std.specs.Prelude.{◌≡◌, Option, IfSome, Result, Ok, Err}
use Rattle.byte_defs.specs.Fields.{◌>>=◌}

-- what was returned, seen by the view, is what reading gives
abbrev pub Gives : {E X Y : Type 0} → (X → Y) → Result X E → Result Y E → Type 0
Gives view (Ok x) read = read ≡ Ok (view x)
Gives view (Err e) read = read ≡ Err e

-- what is left, where the value is not kept
abbrev pub rest_of : {E X Y : Type 0} → Result (X × Y) E → Result Y E
rest_of read = read >>= λ x. Ok x.1

-- ---- where memory may run out

-- an error is want of memory, which is no fault of the bytes, or the fault that reading gives
abbrev pub Fails : {E F Y : Type 0} → (E → Option F) → E → Result Y F → Type 0
Fails fault e read = IfSome (fault e) (λ f. read ≡ Err f)

-- as `Gives`, unless memory runs out
abbrev pub Makes : {E F X Y : Type 0} → (E → Option F) → (X → Y) → Result X E → Result Y F → Type 0
Makes fault view (Ok x) read = read ≡ Ok (view x)
Makes fault view (Err e) read = Fails fault e read
