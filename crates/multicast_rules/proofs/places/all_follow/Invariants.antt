use Rattle.std.proofs.Common.{◌≡◌, List, map}
use Rattle.message_defs.specs.Statements.{Message}
use Rattle.rule_laws.specs.Heard.{IsPool}
use Rattle.rule_laws.specs.Placing.{counts_in}
use Rattle.stmt_codec.specs.Batches.{message_of}
use Rattle.multicast_rules.proofs.Following.{FollowSoFar}
use Rattle.multicast_rules.proofs.places.all_follow.Given as goal

abbrev pub invariant-messages : goal.invariant-messages
invariant-messages l = IsPool l.pool.pool → (before : List Message) → l.initial.counts ≡ counts_in l.pool.pool.view before
    → FollowSoFar l.pool.pool before (map message_of l.messages) l.counts l.sender-index
