use Rattle.std.proofs.Common.{◌≡◌, length}
use Rattle.store_asking.specs.Lines.{are_below}
use Rattle.store_asking.proofs.said.are_all_below.Given as goal

abbrev pub invariant-rest : goal.invariant-rest
invariant-rest l = are_below l.rest l.p ≡ are_below l.fn.set l.p

abbrev pub decreases-rest : goal.decreases-rest
decreases-rest l = length l.rest
