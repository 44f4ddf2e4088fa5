use Rattle.std.proofs.Common.{◌≡◌, refl, true, false}
use Rattle.restored_present.proofs.present.shown.Goals as goal

pub returns-then-both-clause-exact : goal.returns-then-both-clause-exact
returns-then-both-clause-exact c = (
  λ ok. (let two = c.both.ensures.0 c.if-both.true in (c.is_shown-shown.ensures.0 two.0, c.in_ok-said.ensures.0 two.1)),
  λ so. refl,
)

pub returns-else-both-clause-exact : goal.returns-else-both-clause-exact
returns-else-both-clause-exact c = (
  λ no_way. absurd cc,
  λ so. absurd (clash (c.both.ensures.1 (c.is_shown-shown.ensures.1 so.0, c.in_ok-said.ensures.1 so.1)) c.if-both.false),
)
  where
    clash : {b : _} → b ≡ true → b ≡ false → ⊥
    clash e f = cc
