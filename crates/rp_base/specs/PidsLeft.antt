-- The processes that an iterator over a set has left.
use Rattle.std.specs.Prelude.{ℕ, List}
use Rattle.rp_base.specs.declared.pid_set.Pids.{Pids}

abbrev pub pids_left : Pids → List ℕ
pids_left s = s.left
