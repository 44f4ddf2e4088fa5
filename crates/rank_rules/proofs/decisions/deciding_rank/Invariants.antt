use Rattle.std.proofs.Common.{ℕ, ◌<◌}
use Rattle.std.specs.Prelude.{IsFalse, is_some}
use Rattle.group_defs.specs.Process.{Setting}
use Rattle.group_defs.specs.Settle.{decided_at}
use Rattle.ending_rules.specs.Due.{HasKeys}
use Rattle.rank_rules.proofs.decisions.deciding_rank.Given as goal

abbrev pub invariant-ranks : goal.invariant-ranks
invariant-ranks l = (s : Setting) → HasKeys s l.own → (k : ℕ) → k < l.rank → IsFalse (is_some (decided_at s l.pool.pool k))
