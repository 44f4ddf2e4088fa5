-- What holds of a result, and what follows from it.
use Rattle.std.specs.Prelude.{Result, Ok, Err, IfOk, OnOk}

pub if-ok : {A E : Type 0} (P Q : A → Type 0) (r : Result A E) → ((x : A) → P x → Q x) → IfOk r P → IfOk r Q
if-ok P Q (Ok x) more p = more x p
if-ok P Q (Err e) more p = p

pub on-ok : {A E : Type 0} (P Q : Type 0) (r : Result A E) → (P → Q) → OnOk r P → OnOk r Q
on-ok P Q (Ok x) more p = more p
on-ok P Q (Err e) more p = p
