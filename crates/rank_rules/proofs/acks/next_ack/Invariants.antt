use Rattle.std.proofs.Common.{ℕ, ◌<◌, ◌-◌}
use Rattle.std.specs.Prelude.{IsFalse, ◌&&◌}
use Rattle.byte_defs.specs.Choices.{is_some_and}
use Rattle.group_defs.specs.Process.{Setting}
use Rattle.group_defs.specs.Values.{is_justified}
use Rattle.rule_laws.specs.Heard.{IsPool}
use Rattle.rule_laws.specs.Ranks.{suggested}
use Rattle.ending_rules.specs.Due.{HasKeys}
use Rattle.rank_rules.specs.Open.{is_ack_open}
use Rattle.rank_rules.proofs.acks.next_ack.Given as goal

-- no rank that was looked at has an Ack due
abbrev pub invariant-candidates : goal.invariant-candidates
invariant-candidates l = IsPool l.pool.pool → (s : Setting) → HasKeys s l.own → (k : ℕ) → k < l.from
    → IsFalse (is_ack_open l.pool.pool l.own k && is_some_and (suggested l.pool.pool k) (is_justified s l.pool.pool k))

abbrev pub decreases-candidates : goal.decreases-candidates
decreases-candidates l = 255 - l.from
