use Rattle.std.proofs.Common.{◌≡◌, ◌+◌, map}
use Rattle.kit_defs.specs.KitMaking.{first_numbers}
use Rattle.kit_making.proofs.making.make_ports.Given as goal

abbrev pub invariant-loop-p : goal.invariant-loop-p
invariant-loop-p l = l.ports.items ≡ map (λ p. (p, 47000 + p)) (first_numbers l.p)
