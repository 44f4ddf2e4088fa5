use Rattle.std.proofs.Common.{map, take}
use Rattle.schedule_file.specs.Views as views
use Rattle.replay_cast.specs.Keyed.{AreKeyed}
use Rattle.replay_cast.proofs.keyed.keyed_of.Given as goal

abbrev pub invariant-loop-one : goal.invariant-loop-one
invariant-loop-one l = AreKeyed (map views.listed (take l.one-index l.processes)) l.all.items
