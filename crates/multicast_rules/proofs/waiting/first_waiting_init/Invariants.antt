use Rattle.std.proofs.Common.{ℕ, ◌<◌}
use Rattle.std.specs.Prelude.{IsFalse}
use Rattle.multicast_rules.specs.Waiting.{is_init_waiting}
use Rattle.multicast_rules.proofs.waiting.first_waiting_init.Given as goal

abbrev pub invariant-numbers : goal.invariant-numbers
invariant-numbers l = (k : ℕ) → k < l.number → IsFalse (is_init_waiting l.pool.pool l.signed l.sender k)
