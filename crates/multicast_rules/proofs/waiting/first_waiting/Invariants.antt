use Rattle.std.proofs.Common.{◌≡◌, ℕ, ◌<◌, Some, None, slice_get}
use Rattle.message_defs.specs.Limits.{most_places}
use Rattle.pool_laws.specs.Least.{IsLeastBelow}
use Rattle.multicast_rules.specs.Waiting.{is_init_waiting}
use Rattle.multicast_rules.proofs.waiting.first_waiting.Given as goal

abbrev pub invariant-members : goal.invariant-members
invariant-members l = (r m : ℕ) → r < l.sender-index → slice_get l.members r ≡ Some m
    → IsLeastBelow most_places (is_init_waiting l.pool.pool l.signed m) None
