use Rattle.std.proofs.Common.{length, refl, arith}
use Rattle.std.proofs.lemmas.List.{length-take}
use Rattle.own_place.proofs.Reaching.{none-reached}
use Rattle.own_place.proofs.signed.SignedSlots.rewind.Goals as goal

pub invariant_of-self : goal.invariant_of-self
invariant_of-self c =
    let short = length-take c.self.inside.marked c.self.inside.keys.keys in
    rw c.truncate.ensures.keys (record { rows = none-reached _ _ _ refl; few = omega (arith, c.self.invariant.few, short) })
