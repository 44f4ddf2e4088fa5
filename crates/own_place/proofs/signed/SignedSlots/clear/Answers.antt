use Rattle.std.proofs.Common.{refl, arith}
use Rattle.own_place.proofs.Reaching.{none-reached}
use Rattle.own_place.proofs.signed.SignedSlots.clear.Goals as goal

pub invariant_of-self : goal.invariant_of-self
invariant_of-self c = record { rows = none-reached _ _ _ refl; few = omega arith }
