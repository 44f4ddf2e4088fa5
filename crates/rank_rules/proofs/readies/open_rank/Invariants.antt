use Rattle.std.proofs.Common.{ℕ, ◌<◌}
use Rattle.std.specs.Prelude.{IsFalse}
use Rattle.rank_rules.specs.Open.{is_ready_open}
use Rattle.rank_rules.proofs.readies.open_rank.Given as goal

abbrev pub invariant-ranks : goal.invariant-ranks
invariant-ranks l = (k : ℕ) → k < l.rank → IsFalse (is_ready_open l.pool.pool l.own k)
