use Rattle.std.proofs.Common.{ℕ, ◌<◌, ◌≤◌}
use Rattle.std.specs.Prelude.{IsFalse}
use Rattle.rank_rules.specs.Open.{is_ack_open}
use Rattle.rank_rules.proofs.acks.open_from.Given as goal

abbrev pub invariant-ranks : goal.invariant-ranks
invariant-ranks l = (k : ℕ) → l.from ≤ k → k < l.rank → IsFalse (is_ack_open l.pool.pool l.own k)
