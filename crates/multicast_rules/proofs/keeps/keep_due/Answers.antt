use Rattle.std.proofs.Common.{◌∙◌, Some, None, refl, sym, ap, arith}
use Rattle.std.specs.Prelude.{option_map}
use Rattle.message_defs.specs.Statements.{Keep}
use Rattle.group_defs.specs.Views.{View}
use Rattle.group_defs.specs.Process.{Keeps}
use Rattle.multicast_rules.proofs.Telling.{outside, ended}
use Rattle.multicast_rules.proofs.Waits.{keep-due}
use Rattle.multicast_rules.proofs.Reached.{all-kept}
use Rattle.multicast_rules.proofs.keeps.keep_due.Goals as goal

pub returns-in_err-own : goal.returns-in_err-own
returns-in_err-own c = λ s p tells. rw c.from_residual.ensures
    (outside s p c.args.pool.now.pool c.args.own.now tells Keeps c.in_err-own.was)

pub returns-then-own : goal.returns-then-own
returns-then-own c = λ s p tells. ended s p c.args.pool.now.pool c.args.own.now tells Keeps refl c.if-own.true

pub returns-then-placed-reached : goal.returns-then-placed-reached
returns-then-placed-reached c = λ s p tells.
    let le = c.if-placed-reached.true in
    let many = c.placed_len-placed.ensures in
    all-kept s p c.args.pool.now.pool c.args.own.now c.in_ok-own.field-0 c.keeps_below-reached.result tells c.in_ok-own.was c.if-own.false
    c.keeps_below-reached.ensures (omega (arith, le, many))

pub returns-in_err-place : goal.returns-in_err-place
returns-in_err-place c = λ s p tells.
    rw c.from_residual-in_err-place.ensures
    (keep-due s p c.args.pool.now.pool c.args.own.now c.in_ok-own.field-0 c.number.result None
    (c.number.ensures.value ∙ ap (λ (v : View). v.number) c.view.ensures) tells c.in_ok-own.was c.if-own.false c.in_err-place.ensures)

pub returns-in_err-batch : goal.returns-in_err-batch
returns-in_err-batch c = λ s p tells.
    rw c.from_residual-in_err-batch.ensures
    (keep-due s p c.args.pool.now.pool c.args.own.now c.in_ok-own.field-0 c.number.result (Some c.in_ok-place.place)
    (c.number.ensures.value ∙ ap (λ (v : View). v.number) c.view.ensures) tells c.in_ok-own.was c.if-own.false c.in_ok-place.ensures
    ∙ ap (option_map (Keep c.args.pool.now.pool.view.number c.in_ok-place.place)) (sym c.in_err-batch.ensures))

pub returns : goal.returns
returns c = λ s p tells.
    keep-due s p c.args.pool.now.pool c.args.own.now c.in_ok-own.field-0 c.number.result (Some c.in_ok-place.place)
    (c.number.ensures.value ∙ ap (λ (v : View). v.number) c.view.ensures) tells c.in_ok-own.was c.if-own.false c.in_ok-place.ensures
    ∙ ap (option_map (Keep c.args.pool.now.pool.view.number c.in_ok-place.place)) (sym c.in_ok-batch.ensures)
