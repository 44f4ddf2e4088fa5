use Rattle.std.proofs.Common.{◌≡◌, ◌+◌, ◌≤◌, length}
use Rattle.member_events.specs.Kept.{signatures_left}
use Rattle.member_core.proofs.absorbing.count_up_to.Given as goal

abbrev pub invariant-signatures : goal.invariant-signatures
invariant-signatures l = record {
  all : l.count + length (signatures_left l.left) ≡ length (signatures_left l.fn.signatures);
  few : l.count ≤ l.most;
}

abbrev pub decreases-signatures : goal.decreases-signatures
decreases-signatures l = length (signatures_left l.left)
