use Rattle.std.proofs.Common.{◌∙◌, ℕ, ap, sym, true, false}
use Rattle.std.specs.Prelude.{option_map}
use Rattle.message_defs.specs.Statements.{Statement, Suggest}
use Rattle.group_defs.specs.Process.{Suggests}
use Rattle.rp_base.specs.declared.updates.Value.{Value}
use Rattle.rp_base.specs.Views.{value}
use Rattle.ending_rules.proofs.Telling.{outside}
use Rattle.rank_rules.proofs.Ranking.{suggest-is}
use Rattle.rank_rules.proofs.suggests.suggest_due.Goals as goal

pub returns-in_err-rank : goal.returns-in_err-rank
returns-in_err-rank c s p tells chosen =
    let made : ℕ × Value → Statement = λ v. Suggest c.args.pool.now.pool.view.number v.0 (value v.1) in
    outside s p c.args.pool.now.pool c.args.own.now tells Suggests c.in_err-rank.was ∙ ap (option_map made) (sym c.from_residual.ensures)

pub returns-then-not-is_open : goal.returns-then-not-is_open
returns-then-not-is_open c s p tells chosen = suggest-is s p c.args.pool.now.pool c.args.own.now tells c.in_ok-rank.rank c.in_ok-rank.was
    false c.if-not-is_open.ensures

pub returns-in_err-value : goal.returns-in_err-value
returns-in_err-value c s p tells chosen =
    let h = c.args.pool.now.pool in
    let made : ℕ × Value → Statement = λ v. Suggest h.view.number v.0 (value v.1) in
    suggest-is s p h c.args.own.now tells c.in_ok-rank.rank c.in_ok-rank.was true c.if-not-is_open.ensures
    ∙ ap (option_map (Suggest h.view.number c.in_ok-rank.rank))
    (sym (chosen c.in_ok-rank.rank c.in_ok-rank.was) ∙ ap (option_map value) c.in_err-value.was)
    ∙ ap (option_map made) (sym c.from_residual-in_err-value.ensures)

pub returns : goal.returns
returns c s p tells chosen =
    let h = c.args.pool.now.pool in
    suggest-is s p h c.args.own.now tells c.in_ok-rank.rank c.in_ok-rank.was true c.if-not-is_open.ensures
    ∙ ap (option_map (Suggest h.view.number c.in_ok-rank.rank))
    (sym (chosen c.in_ok-rank.rank c.in_ok-rank.was) ∙ ap (option_map value) c.in_ok-value.was)
