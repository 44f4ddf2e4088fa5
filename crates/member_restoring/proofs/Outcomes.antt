-- What holds of something that may be none.
use Rattle.std.proofs.Common.{◌≡◌, Bool, true, false, Option, Some, None, ap}
use Rattle.std.specs.Prelude.{◌↔◌, is_some, IsTrue}

-- something is there, so it is so
pub some-so : {A : Type 0} (o : Option A) (a : A) (C : Type 0) → o ≡ Some a → (IsTrue (is_some o) ↔ C) → C
some-so {A = A} o a C is exact = exact.0 (ap (λ (q : Option A). is_some q) is)

pub none-so : {A : Type 0} (o : Option A) (C : Type 0) → o ≡ None → (IsTrue (is_some o) ↔ C) → C → ⊥
none-so {A = A} o C is exact so = clash (exact.1 so) (ap (λ (q : Option A). is_some q) is)
  where
    clash : {b : Bool} → b ≡ true → b ≡ false → ⊥
    clash e f = cc
