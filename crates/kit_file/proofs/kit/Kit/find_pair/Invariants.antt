use Rattle.std.proofs.Common.{◌≡◌, drop}
use Rattle.std.specs.Prelude.{find, ◌==◌}
use Rattle.kit_file.specs.Views.{hosts}
use Rattle.kit_file.proofs.kit.Kit.find_pair.Given as goal

abbrev pub invariant-loop-host : goal.invariant-loop-host
invariant-loop-host l = find (λ host. host.process == l.p) (hosts (drop l.host-index l.host-items))
    ≡ find (λ host. host.process == l.p) (hosts l.host-items)
