use Rattle.std.proofs.Common.{◌≡◌, ◌∙◌, ℕ, true, false, sym, subst, arith}
use Rattle.byte_defs.specs.Orders.{numbers_below}
use Rattle.group_defs.specs.Events.{perceived_numbers}
use Rattle.rp_base.specs.declared.updates.Update.{Update}
use Rattle.accounts.specs.Views.{perceived as perceived_of}
use Rattle.member_taking.proofs.Placed.{one-more, put-before, put-last}
use Rattle.member_taking.proofs.taking_in.place_among.Goals as goal

pub returns-then-lie_before-clause-place : goal.returns-then-lie_before-clause-place
returns-then-lie_before-clause-place c =
    put-before perceived_of perceived_numbers
    (c.args.view, c.args.update.now) c.args.all.now c.updates.place c.index-all-place.result c.updates-test.true c.updates.invariant
    (subst (λ (e : ℕ × Update). numbers_below (perceived_numbers (perceived_of (c.args.view, c.args.update.now)))
    (perceived_numbers (perceived_of e)) ≡ true) c.index-all-place.is (sym c.lie_before.ensures ∙ c.if-lie_before.true))

pub updates-preserved : goal.updates-preserved
updates-preserved c =
    one-more perceived_of perceived_numbers
    (c.args.view, c.args.update.now) c.args.all.now c.updates.place c.index-all-place.result c.updates-test.true c.updates.invariant
    (subst (λ (e : ℕ × Update). numbers_below (perceived_numbers (perceived_of (c.args.view, c.args.update.now)))
    (perceived_numbers (perceived_of e)) ≡ false) c.index-all-place.is (sym c.lie_before.ensures ∙ c.if-lie_before.false))

pub returns-clause-place : goal.returns-clause-place
returns-clause-place c =
    put-last perceived_of perceived_numbers (c.args.view, c.args.update.now) c.args.all.now
    (λ k less d. c.updates.invariant k (let end = c.updates-test.false in omega (arith, less, end)) d)
