use Rattle.std.proofs.Common.{◌≡◌, take}
use Rattle.std.specs.Prelude.{map}
use Rattle.kit_file.specs.Views.{hosts}
use Rattle.kit_file.proofs.kit.Kit.hosted.Given as goal

abbrev pub invariant-loop-host : goal.invariant-loop-host
invariant-loop-host l = l.all ≡ map (λ host. host.process) (hosts (take l.host-index l.host-items))
