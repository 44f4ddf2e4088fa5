use Rattle.std.proofs.Common.{◌≡◌, ◌++◌, take}
use Rattle.std.specs.List.{flat_map}
use Rattle.kit_defs.specs.Kits.{host_lines, text_of_lines}
use Rattle.kit_file.specs.Views.{hosts}
use Rattle.kit_file.proofs.writing.push_hosts.Given as goal

abbrev pub invariant-loop-one : goal.invariant-loop-one
invariant-loop-one l = l.out.items ≡ l.initial.out.items ++ text_of_lines (flat_map host_lines (hosts (take l.one-index l.all)))
