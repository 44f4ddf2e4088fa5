use Rattle.std.proofs.Common.{◌≡◌, ◌++◌, take}
use Rattle.picture_defs.specs.Elements.{spaced}
use Rattle.picture_labels.proofs.elements.push_spaced.Given as goal

abbrev pub invariant-loop-process : goal.invariant-loop-process
invariant-loop-process l = l.out.items ≡ l.fn.out.items ++ spaced (take l.process-index l.processes)
