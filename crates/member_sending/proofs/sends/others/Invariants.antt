use Rattle.std.proofs.Common.{◌≡◌, ◌≤◌, length, drop}
use Rattle.std.specs.Prelude.{filter, not, ◌==◌}
use Rattle.byte_defs.specs.Orders.{sorted}
use Rattle.claim_index.specs.Kept.{by_number}
use Rattle.member_sending.proofs.sends.others.Given as goal

abbrev pub invariant-members : goal.invariant-members
invariant-members l = record {
  set : l.others ≡ sorted by_number (filter (λ m. not (m == l.fn.me)) (drop l.left l.members));
  within : l.left ≤ length l.members;
}

abbrev pub decreases-members : goal.decreases-members
decreases-members l = l.left
