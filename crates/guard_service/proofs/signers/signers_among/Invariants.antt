use Rattle.std.proofs.Common.{◌≡◌, ℕ, length}
use Rattle.std.specs.Prelude.{◌||◌}
use Rattle.byte_defs.specs.Members.{has}
use Rattle.member_events.specs.Below.{claims_left}
use Rattle.guard_service.specs.Evidence.{makes_one}
use Rattle.guard_service.proofs.signers.signers_among.Given as goal

abbrev pub invariant-claims : goal.invariant-claims
invariant-claims l = (q : ℕ) → (has l.signers q || makes_one (claims_left l.left) q) ≡ makes_one (claims_left l.fn.claims) q

abbrev pub decreases-claims : goal.decreases-claims
decreases-claims l = length (claims_left l.left)
