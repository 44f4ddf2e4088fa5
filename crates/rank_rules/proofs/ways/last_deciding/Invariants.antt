use Rattle.std.proofs.Common.{ℕ, ◌<◌, ◌≤◌}
use Rattle.std.specs.Prelude.{IsFalse}
use Rattle.byte_defs.specs.Choices.{is_some_and}
use Rattle.group_defs.specs.Values.{is_second_way}
use Rattle.rule_laws.specs.Heard.{IsPool}
use Rattle.rule_laws.specs.Ranks.{acked}
use Rattle.rank_rules.proofs.ways.last_deciding.Given as goal

abbrev pub invariant-ranks : goal.invariant-ranks
invariant-ranks l = record {
  within : l.above ≤ l.rank;
  none : IsPool l.pool.pool → (k : ℕ) → l.above ≤ k → k < l.rank
      → IsFalse (is_some_and (acked l.pool.pool k) (is_second_way l.pool.pool l.rank k));
}

abbrev pub decreases-ranks : goal.decreases-ranks
decreases-ranks l = l.above
