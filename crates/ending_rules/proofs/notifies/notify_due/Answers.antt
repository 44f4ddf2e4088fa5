use Rattle.std.proofs.Common.{◌∙◌, ℕ, Some, ap, sym}
use Rattle.std.specs.Option.{option_map}
use Rattle.message_defs.specs.Statements.{Statement, Notify}
use Rattle.rp_base.specs.declared.updates.Update.{Update}
use Rattle.rp_base.specs.Views.{update}
use Rattle.rule_laws.specs.Perceived.{update_at}
use Rattle.ending_rules.proofs.Telling.{notify-is, notify-none, outside}
use Rattle.group_defs.specs.Process.{Notifies}
use Rattle.ending_rules.proofs.notifies.notify_due.Goals as goal

pub returns-in_err-own : goal.returns-in_err-own
returns-in_err-own c s p tells perceived =
    let of_update : Update → Statement = λ u. Notify c.args.pool.now.pool.view.number (update u) in
    outside s p c.args.pool.now.pool c.args.own.now tells Notifies c.in_err-own.was ∙ ap (option_map of_update)
    (sym c.from_residual.ensures)

pub returns-then-is_empty : goal.returns-then-is_empty
returns-then-is_empty c s p tells perceived = notify-none s p c.args.pool.now.pool c.args.own.now tells c.args.set.now perceived
    (c.is_empty.ensures.none c.if-is_empty.true)

pub returns-in_err-number : goal.returns-in_err-number
returns-in_err-number c s p tells perceived =
    let of_update : Update → Statement = λ u. Notify c.args.pool.now.pool.view.number (update u) in
    let of_number : ℕ → Statement = λ i. Notify c.args.pool.now.pool.view.number (update_at i) in
    notify-is s p c.args.pool.now.pool c.args.own.now tells c.args.set.now perceived c.is_empty.ensures.range c.in_ok-own.field-0
    c.in_ok-own.was c.open_number.result c.open_number.ensures
    ∙ ap (option_map of_number) c.in_err-number.was
    ∙ ap (option_map of_update) (sym c.from_residual-in_err-number.ensures)

pub returns : goal.returns
returns c s p tells perceived =
    let of_number : ℕ → Statement = λ i. Notify c.args.pool.now.pool.view.number (update_at i) in
    notify-is s p c.args.pool.now.pool c.args.own.now tells c.args.set.now perceived c.is_empty.ensures.range c.in_ok-own.field-0
    c.in_ok-own.was c.open_number.result c.open_number.ensures
    ∙ ap (option_map of_number) c.in_ok-number.was
    ∙ ap (λ u. Some (Notify c.args.pool.now.pool.view.number u)) (sym c.update_at.ensures)
