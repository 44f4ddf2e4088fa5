use Rattle.std.proofs.Common.{refl, arith}
use Rattle.own_place.proofs.Reaching.{none-reached}
use Rattle.own_place.proofs.signed.SignedSlots.new.Goals as goal

pub invariant_of-result : goal.invariant_of-result
invariant_of-result c = record { rows = none-reached _ _ _ refl; few = omega arith }
