use Rattle.std.proofs.Common.{ℕ, ◌<◌}
use Rattle.std.specs.Prelude.{IsFalse}
use Rattle.group_defs.specs.Values.{is_second_way}
use Rattle.rp_base.specs.Views.{value}
use Rattle.rule_laws.specs.Heard.{IsPool}
use Rattle.rank_rules.proofs.ways.first_deciding.Given as goal

abbrev pub invariant-ranks : goal.invariant-ranks
invariant-ranks l = IsPool l.pool.pool → (k : ℕ) → k < l.lower → IsFalse (is_second_way l.pool.pool l.rank k (value l.value))
