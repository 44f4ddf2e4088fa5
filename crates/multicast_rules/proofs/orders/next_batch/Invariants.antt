use Rattle.std.proofs.Common.{◌≡◌, ◌-◌, List, length}
use Rattle.message_defs.specs.Statements.{Message}
use Rattle.rule_laws.specs.Heard.{IsPool}
use Rattle.rule_laws.specs.Placing.{counts_in, IsBatchSoFar}
use Rattle.multicast_rules.proofs.orders.next_batch.Given as goal

abbrev pub invariant-messages : goal.invariant-messages
invariant-messages l = record {
  so_far : IsPool l.pool.pool → (before : List Message) → l.fn.counts ≡ counts_in l.pool.pool.view before
      → IsBatchSoFar l.pool.pool before l.limit l.batch l.counts (l.limit - l._more);
  long : length l.batch ≡ l._more;
}
