use Rattle.std.proofs.Common.{◌≡◌, ℕ, true, false, sym, subst}
use Rattle.std.specs.Prelude.{◌↔◌, is_some, IsTrue}
use Rattle.member_events.specs.Below.{report}
use Rattle.restored_left.specs.Facts.{IsDecidedSo, IsHaltedSo}
use Rattle.restored_present.proofs.present.phase_in.Goals as goal

pub returns-then-not-is_halted_so-clause-exact : goal.returns-then-not-is_halted_so-clause-exact
returns-then-not-is_halted_so-clause-exact g c = (
  λ no_way. absurd cc,
  λ so. absurd (clash (c.is_halted_so.ensures.1 (subst (λ (n : ℕ). IsHaltedSo c.args.image.now.halted n (report c.args.image.now.decision)) (sym c.from.ensures) so.1))
      c.if-not-is_halted_so.true),
)
  where
    clash : {b : _} → b ≡ true → b ≡ false → ⊥
    clash e f = cc

pub returns-clause-exact : goal.returns-clause-exact
returns-clause-exact g c =
    let decided = subst (λ ks. IsTrue (is_some c.phase_of.result)
    ↔ IsDecidedSo c.args.pool.now.pool ks c.args.image.now.me c.args.places (report c.args.image.now.decision)) c.processes-keyed.ensures.value
    c.phase_of.ensures.exact in
    let halted = subst (λ (n : ℕ). IsHaltedSo c.args.image.now.halted n (report c.args.image.now.decision)) c.from.ensures
    (c.is_halted_so.ensures.0 c.if-not-is_halted_so.false) in
    (λ ok. (decided.0 ok, halted), λ so. decided.1 so.0)
