use Rattle.std.proofs.Common.{◌≡◌, drop}
use Rattle.std.specs.Prelude.{find, ◌==◌}
use Rattle.kit_file.proofs.kit.Kit.find_port.Given as goal

abbrev pub invariant-loop-port : goal.invariant-loop-port
invariant-loop-port l = find (λ port. port.0 == l.p) (drop l.port-index l.port-items) ≡ find (λ port. port.0 == l.p) l.port-items
