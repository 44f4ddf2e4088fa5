use Rattle.std.proofs.Common.{◌≡◌, drop, length}
use Rattle.kit_defs.specs.Kits.{others_than}
use Rattle.kit_defs.specs.KitReading.{first_of}
use Rattle.kit_draft.proofs.draft.nth_other.Given as goal

abbrev pub invariant-rest : goal.invariant-rest
invariant-rest l = first_of (drop l.left (others_than l.own l.rest)) ≡ first_of (drop l.n (others_than l.own l.fn.set))

abbrev pub decreases-rest : goal.decreases-rest
decreases-rest l = length l.rest
