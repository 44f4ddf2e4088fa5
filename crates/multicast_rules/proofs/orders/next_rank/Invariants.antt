use Rattle.std.proofs.Common.{ℕ, ◌<◌}
use Rattle.std.specs.Prelude.{IsFalse}
use Rattle.rule_laws.specs.Placing.{is_next}
use Rattle.multicast_rules.proofs.orders.next_rank.Given as goal

abbrev pub invariant-ranks : goal.invariant-ranks
invariant-ranks l = (r : ℕ) → r < l.rank → IsFalse (is_next l.pool.pool l.counts r)
