use Rattle.std.proofs.Common.{◌≡◌, map}
use Rattle.kit_defs.specs.KitMaking.{first_numbers, made_host}
use Rattle.kit_file.specs.Views.{hosts}
use Rattle.kit_making.proofs.making.make_hosts.Given as goal

abbrev pub invariant-loop-p : goal.invariant-loop-p
invariant-loop-p l = hosts l.all.items ≡ map (made_host l.keys l.seed l.count) (first_numbers l.p)
