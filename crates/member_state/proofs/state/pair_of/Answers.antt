use Rattle.std.proofs.Common.{◌≡◌, ◌∙◌, ◌+◌, suc, ℕ, sym, ap, arith, drop, length}
use Rattle.member_events.specs.Below.{claim}
use Rattle.member_state.specs.States.{kept_of}
use Rattle.member_state.proofs.Seeking.{passed, found, absent}
use Rattle.member_state.proofs.state.pair_of.Goals as goal
use Rattle.member_state.proofs.state.pair_of.Goals.{in-Some+else-eq, in_default}

pub returns-then-eq : goal.returns-then-eq
returns-then-eq c =
    sym (found c.args.signer c.args.conflicts.now.pairs c.pairs.place (claim c.in-Some.heard, claim c.in-Some.other)
    (sym c.in-Some.ensures) (sym c.eq.ensures ∙ c.if-eq.true)) ∙ c.pairs.invariant

pub pairs-preserved : goal.pairs-preserved
pairs-preserved c =
    elim c.match-pair_at.branch [
      | in-Some+else-eq w ↦
          let one : c.pairs.place + 1 ≡ suc c.pairs.place = omega arith in
          ap (λ (k : ℕ). kept_of c.args.signer (drop k c.args.conflicts.now.pairs)) one
          ∙ sym (passed c.args.signer c.args.conflicts.now.pairs c.pairs.place (claim w.in-Some.heard, claim w.in-Some.other)
          (sym w.in-Some.ensures) (sym w.eq.ensures ∙ w.if-eq.false)) ∙ c.pairs.invariant
      | in_default w ↦ absurd (absent c.args.conflicts.now.pairs c.pairs.place (sym w.in_default.ensures)
          (let lt = c.pairs-test.true in let long = c.len-place-end.ensures in omega (arith, lt, long)))
    ]
