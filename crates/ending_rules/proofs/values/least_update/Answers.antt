use Rattle.std.proofs.Common.{ℕ, ◌∙◌, Option, ap, sym, subst}
use Rattle.std.specs.Prelude.{◌&&◌}
use Rattle.group_defs.specs.Views.{is_possible}
use Rattle.group_defs.specs.Process.{keyed}
use Rattle.pool_laws.specs.Least.{IsLeastBelow}
use Rattle.rule_laws.specs.Ending.{may_update}
use Rattle.rule_laws.specs.Perceived.{update_at}
use Rattle.ending_rules.proofs.values.least_update.Goals as goal

pub returns-in_err-first : goal.returns-in_err-first
returns-in_err-first c s keys =
    let h = c.args.pool.now.pool in
    subst (λ (o : Option ℕ). IsLeastBelow 129 (λ i. may_update s h (update_at i)) o) (sym c.from_residual.ensures)
    (λ k _ _. ap (λ b. b && is_possible (keyed s) h.view (update_at k))
    (sym (c.notified.ensures (update_at k)) ∙ c.in_err-first.ensures (update_at k)))
