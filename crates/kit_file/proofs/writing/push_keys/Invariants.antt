use Rattle.rp_base.specs.PidsLeft.{pids_left}
use Rattle.kit_file.proofs.Keys.{Stand}
use Rattle.kit_file.proofs.writing.push_keys.Given as goal

abbrev pub invariant-loop-process : goal.invariant-loop-process
invariant-loop-process l = Stand l.roster l.fn.out.items l.out.items (pids_left l.process-iterator)
