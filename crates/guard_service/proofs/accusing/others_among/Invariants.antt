use Rattle.std.proofs.Common.{◌≡◌, ◌≤◌, [], ◌∷◌, length, drop}
use Rattle.std.specs.Prelude.{◌&&◌, ◌==◌, filter, not}
use Rattle.byte_defs.specs.Members.{has}
use Rattle.byte_defs.specs.Orders.{sorted}
use Rattle.guard_service.proofs.accusing.others_among.Given as goal

abbrev pub invariant-members : goal.invariant-members
invariant-members l = record {
  set : l.others ≡ sorted (λ m. m ∷ []) (filter (λ m. not (m == l.fn.me) && has l.fn.listed m) (drop l.left l.members));
  within : l.left ≤ length l.members;
}

abbrev pub decreases-members : goal.decreases-members
decreases-members l = l.left
