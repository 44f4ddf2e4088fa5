use Rattle.std.proofs.Common.{◌≡◌, ◌∙◌, ◌+◌, ◌-◌, ℕ, List, drop, sym, ap, arith}
use Rattle.member_state.specs.States.{signers_in}
use Rattle.member_events.specs.Below.{claim}
use Rattle.member_state.proofs.Liars.{none-reported, one-reported, none-there}
use Rattle.member_state.proofs.state.liars_in.Goals as goal

pub pairs-init : goal.pairs-init
pairs-init c = none-reported c.args.conflicts.now.pairs c.len-left.result c.new-liars.result c.len-left.ensures c.new-liars.ensures

pub pairs-preserved-in-Some : goal.pairs-preserved-in-Some
pairs-preserved-in-Some c = one-reported c.args.conflicts.now.pairs c.pairs.left (c.pairs.left - 1) c.pairs.liars c.insert.new.self
    (claim c.in-Some.heard) c.pairs.invariant (let some = c.pairs-test.true in omega (arith, some)) c.in-Some.ensures c.insert.ensures

pub pairs-preserved : goal.pairs-preserved
pairs-preserved c = absurd (none-there c.args.conflicts.now.pairs c.pairs.left (c.pairs.left - 1) c.pairs.liars c.pairs.invariant
    (let some = c.pairs-test.true in omega (arith, some)) c.in_default.ensures)

pub returns : goal.returns
returns c are =
    let none : c.pairs.left ≡ 0 = (let test = c.pairs-test.false in omega (arith, test)) in
    c.pairs.invariant.reported are ∙ ap (λ (k : ℕ). signers_in (drop k c.args.conflicts.now.pairs)) none
