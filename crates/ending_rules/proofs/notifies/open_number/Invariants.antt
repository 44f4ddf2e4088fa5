use Rattle.std.proofs.Common.{ℕ, ◌<◌}
use Rattle.std.specs.Prelude.{IsFalse}
use Rattle.ending_rules.specs.Perceiving.{is_notify_open}
use Rattle.ending_rules.proofs.notifies.open_number.Given as goal

abbrev pub invariant-updates : goal.invariant-updates
invariant-updates l = (k : ℕ) → k < l.number → IsFalse (is_notify_open l.pool.pool l.own l.set k)
