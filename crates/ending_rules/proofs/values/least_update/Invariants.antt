use Rattle.std.proofs.Common.{ℕ, ◌<◌}
use Rattle.std.specs.Prelude.{IsFalse}
use Rattle.group_defs.specs.Process.{Setting}
use Rattle.rule_laws.specs.Ending.{may_update}
use Rattle.rule_laws.specs.Perceived.{update_at}
use Rattle.ending_rules.specs.Due.{HasKeys}
use Rattle.ending_rules.proofs.values.least_update.Given as goal

abbrev pub invariant-updates : goal.invariant-updates
invariant-updates l = (s : Setting) → HasKeys s l.own → (k : ℕ) → k < l.number → IsFalse (may_update s l.pool.pool (update_at k))
