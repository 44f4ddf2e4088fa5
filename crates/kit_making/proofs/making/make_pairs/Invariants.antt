use Rattle.std.proofs.Common.{◌≡◌, map}
use Rattle.kit_defs.specs.Kits.{others_than}
use Rattle.kit_defs.specs.KitMaking.{first_numbers, derived_pair}
use Rattle.kit_making.proofs.making.make_pairs.Given as goal

abbrev pub invariant-loop-q : goal.invariant-loop-q
invariant-loop-q l = l.pairs.items ≡ map (λ q. (q, derived_pair l.seed l.p q)) (others_than l.p (first_numbers l.q))
