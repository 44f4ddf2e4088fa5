use Rattle.std.proofs.Common.{◌∙◌, ℕ, Option, Some, ap, sym, length, arith}
use Rattle.std.specs.Prelude.{option_and_then, option_map}
use Rattle.message_defs.specs.Updates.{Value}
use Rattle.rp_base.specs.Views.{value}
use Rattle.rule_laws.specs.Perceived.{update_at}
use Rattle.rule_laws.proofs.Ends.{free_value_is}
use Rattle.ending_rules.proofs.Cuts.{some-cut}
use Rattle.ending_rules.proofs.values.free_value.Goals as goal

-- the value of an update and a cut, where both are there
made : Option ℕ → Option ℕ → Option Value
made update cut = option_and_then (λ i. option_map (λ k. record { update = update_at i; cut = k }) cut) update

pub returns-in_err-number : goal.returns-in_err-number
unfolding made
returns-in_err-number c pool s keys =
    let h = c.args.pool.now.pool in
    let cut = some-cut h (length h.view.members) (omega arith) in
    ap (option_map value) c.from_residual.ensures
    ∙ sym (free_value_is s h c.least_update.result cut.0 pool (c.least_update.ensures s keys) cut.1 ∙ ap
    (λ o. made o cut.0) c.in_err-number.was)

pub returns-in_err-cut : goal.returns-in_err-cut
unfolding made
returns-in_err-cut c pool s keys =
    let h = c.args.pool.now.pool in
    ap (option_map value) c.from_residual-in_err-cut.ensures
    ∙ sym (free_value_is s h c.least_update.result c.least_cut.result pool (c.least_update.ensures s keys) c.least_cut.ensures ∙
    (λ i. made (c.in_ok-number.was i) (c.in_err-cut.was i)))

pub returns : goal.returns
unfolding made
returns c pool s keys =
    let h = c.args.pool.now.pool in
    ap (λ u. Some (record { update = u; cut = c.in_ok-cut.cut })) c.update_at-update.ensures
    ∙ sym (free_value_is s h c.least_update.result c.least_cut.result pool (c.least_update.ensures s keys) c.least_cut.ensures ∙
    (λ i. made (c.in_ok-number.was i) (c.in_ok-cut.was i)))
