use Rattle.std.proofs.Common.{◌≡◌, refl, true, false}
use Rattle.restored_left.proofs.past.with_last.Goals as goal

pub returns-then-is_last-clause-exact : goal.returns-then-is_last-clause-exact
returns-then-is_last-clause-exact c s is = (
  λ ok. (c.in_ok-is_last.ensures.exact s is).0 c.if-is_last.true,
  λ so. refl,
)

pub returns-else-is_last-clause-exact : goal.returns-else-is_last-clause-exact
returns-else-is_last-clause-exact c s is = (
  λ no_way. absurd cc,
  λ so. absurd (clash ((c.in_ok-is_last.ensures.exact s is).1 so) c.if-is_last.false),
)
  where
    clash : {b : _} → b ≡ true → b ≡ false → ⊥
    clash e f = cc
