use Rattle.std.proofs.Common.{◌∙◌, true, false, ap, sym}
use Rattle.group_defs.specs.Views.{View}
use Rattle.group_defs.specs.Process.{Inits}
use Rattle.multicast_rules.proofs.Telling.{outside}
use Rattle.multicast_rules.proofs.Waits.{no-init-due, this-init-due}
use Rattle.multicast_rules.proofs.Reached.{none-has-payload}
use Rattle.multicast_rules.proofs.inits.init_due.Goals as goal

pub returns-in_err-own-clause-least : goal.returns-in_err-own-clause-least
returns-in_err-own-clause-least c = λ s p tells accepted. rw c.from_residual.ensures
    (outside s p c.args.pool.now.pool c.args.own.now tells Inits c.in_err-own.was)

pub returns-then-has_none-clause-least : goal.returns-then-has_none-clause-least
returns-then-has_none-clause-least c = λ s p tells accepted.
    none-has-payload s p c.args.pool.now.pool c.args.own.now c.in_ok-own.field-0 c.inits_below-reached.result c.counts_of-delivered.result c.args.accepted
    tells c.in_ok-own.was c.inits_below-reached.ensures c.counts_of-delivered.ensures.member accepted (sym c.has_none.ensures ∙ c.if-has_none.true)

pub returns-in_err-number-clause-least : goal.returns-in_err-number-clause-least
returns-in_err-number-clause-least c = λ s p tells accepted.
    rw c.from_residual-in_err-number.ensures
    (no-init-due s p c.args.pool.now.pool c.args.own.now c.in_ok-own.field-0 c.number.result
    (c.number.ensures.value ∙ ap (λ (v : View). v.number) c.view.ensures) tells c.in_ok-own.was c.in_err-number.ensures)

pub returns-then-has_payload-clause-least : goal.returns-then-has_payload-clause-least
returns-then-has_payload-clause-least c = λ s p tells accepted.
    this-init-due s p c.args.pool.now.pool c.args.own.now c.in_ok-own.field-0 c.number.result c.in_ok-number.number c.counts_of-delivered.result
    c.args.accepted true
    (c.number.ensures.value ∙ ap (λ (v : View). v.number) c.view.ensures) tells c.in_ok-own.was c.in_ok-number.ensures
    c.counts_of-delivered.ensures.member accepted c.if-has_payload.ensures

pub returns-else-has_payload-clause-least : goal.returns-else-has_payload-clause-least
returns-else-has_payload-clause-least c = λ s p tells accepted.
    this-init-due s p c.args.pool.now.pool c.args.own.now c.in_ok-own.field-0 c.number.result c.in_ok-number.number c.counts_of-delivered.result
    c.args.accepted false
    (c.number.ensures.value ∙ ap (λ (v : View). v.number) c.view.ensures) tells c.in_ok-own.was c.in_ok-number.ensures
    c.counts_of-delivered.ensures.member accepted c.if-has_payload.ensures
