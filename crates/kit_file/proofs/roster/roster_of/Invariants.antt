use Rattle.rp_base.specs.PidsLeft.{pids_left}
use Rattle.kit_file.proofs.Copying.{Copies}
use Rattle.kit_file.proofs.roster.roster_of.Given as goal

abbrev pub invariant-loop-process : goal.invariant-loop-process
invariant-loop-process l = Copies l.listed l.roster (pids_left l.process-iterator)
