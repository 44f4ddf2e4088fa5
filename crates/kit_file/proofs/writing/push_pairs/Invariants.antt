use Rattle.std.proofs.Common.{◌≡◌, ◌++◌, map, take}
use Rattle.kit_defs.specs.Kits.{pair_line, text_of_lines}
use Rattle.kit_file.proofs.writing.push_pairs.Given as goal

abbrev pub invariant-loop-other : goal.invariant-loop-other
invariant-loop-other l = l.out.items ≡ l.initial.out.items ++ text_of_lines (map (pair_line l.process) (take l.other-index l.pairs))
