use Rattle.std.proofs.Common.{ℕ, ◌<◌, ◌≤◌}
use Rattle.std.specs.Prelude.{IsFalse}
use Rattle.multicast_rules.specs.Waiting.{is_order_waiting}
use Rattle.multicast_rules.proofs.waiting.first_waiting_order.Given as goal

abbrev pub invariant-places : goal.invariant-places
invariant-places l = (k : ℕ) → l.from ≤ k → k < l.place → IsFalse (is_order_waiting l.pool.pool l.signed k)
