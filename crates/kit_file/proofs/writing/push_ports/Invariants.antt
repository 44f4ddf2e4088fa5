use Rattle.std.proofs.Common.{◌≡◌, ◌++◌, map, take}
use Rattle.kit_defs.specs.Kits.{port_line, text_of_lines}
use Rattle.kit_file.proofs.writing.push_ports.Given as goal

abbrev pub invariant-loop-process : goal.invariant-loop-process
invariant-loop-process l = l.out.items ≡ l.initial.out.items ++ text_of_lines (map port_line (take l.process-index l.ports))
