-- The test of an entry.
use Rattle.std.proofs.Common.{◌≡◌, Bool, true, false, refl, length}
use Rattle.std.specs.Prelude.{◌&&◌}
use Rattle.std.proofs.lemmas.Bool.{eqb-true, eq-eqb}
use Rattle.pool_laws.proofs.Tests.{and-four}
use Rattle.group_defs.specs.Events.{outcome}
use Rattle.audit_defs.specs.Players.{same_answer, turn_of}
use Rattle.audit_defs.specs.Laws.{WrittenIsTested}

same-is : (a b : Bool) → same_answer a b ≡ true → a ≡ b
same-is true true e = refl
same-is true false e = absurd cc
same-is false true e = absurd cc
same-is false false e = refl

is-same : (a b : Bool) → a ≡ b → same_answer a b ≡ true
is-same true true e = refl
is-same true false e = absurd cc
is-same false true e = absurd cc
is-same false false e = refl

all-four : (a b c d : Bool) → a ≡ true → b ≡ true → c ≡ true → d ≡ true → (a && b && c && d) ≡ true
all-four true true true true p q r t = refl
all-four true true true false p q r t = absurd cc
all-four true true false d p q r t = absurd cc
all-four true false c d p q r t = absurd cc
all-four false b c d p q r t = absurd cc

pub written_is_tested : WrittenIsTested
written_is_tested s p e = (
  λ yes'. let t = and-four _ _ _ _ yes' in (
    (
      eqb-true (length (outcome s p (turn_of p e)).signed) (length e.signatures) t.0,
      same-is (outcome s p (turn_of p e)).spent e.spent t.1,
    ),
    t.2,
    t.3,
  ),
  λ w. all-four _ _ _ _ (eq-eqb (length (outcome s p (turn_of p e)).signed) (length e.signatures) w.0.0)
      (is-same (outcome s p (turn_of p e)).spent e.spent w.0.1) w.1 w.2,
)
