use Rattle.std.proofs.Common.{◌≡◌, ◌+◌, length}
use Rattle.rp_base.specs.PidsLeft.{pids_left}
use Rattle.story_words.proofs.endings.count.Given as goal

abbrev pub invariant-loop-process : goal.invariant-loop-process
invariant-loop-process l = l.n + length (pids_left l._process-iterator) ≡ length l.fn.processes
