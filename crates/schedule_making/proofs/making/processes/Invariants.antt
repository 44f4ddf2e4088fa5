use Rattle.std.proofs.Common.{◌≡◌, map}
use Rattle.std.specs.List.{range_with_len}
use Rattle.replay_defs.specs.Generator.{made_listed}
use Rattle.schedule_file.specs.Views.{listed}
use Rattle.schedule_making.proofs.making.processes.Given as goal

abbrev pub invariant-loop-p : goal.invariant-loop-p
invariant-loop-p l = map listed l.all.items ≡ map made_listed (range_with_len 0 l.p)
