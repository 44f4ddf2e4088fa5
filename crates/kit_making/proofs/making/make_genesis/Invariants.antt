use Rattle.std.proofs.Common.{◌≡◌}
use Rattle.kit_defs.specs.KitMaking.{first_numbers}
use Rattle.kit_making.proofs.making.make_genesis.Given as goal

abbrev pub invariant-loop-p : goal.invariant-loop-p
invariant-loop-p l = l.genesis.items ≡ first_numbers l.p
