-- The state of some process.
use Rattle.std.proofs.Common.{Option, Some, None}
use Rattle.std.specs.Prelude.{IfSome}
use Rattle.std.proofs.lemmas.Grind.{merely}
use Rattle.group_defs.specs.Process.{Setting, Process}
use Rattle.member_restoring.specs.States.{HasProcess, IsReal, IsStateOf, ProcessState}

pub real-so : (s : Setting) (p : Process) (o : Option ProcessState) → IfSome o (IsStateOf s p) → IfSome o IsReal
real-so s p None is = is
real-so s p (Some st) is =
    let has : HasProcess st = record { setting = s; process = p; state = is } in
    merely has
