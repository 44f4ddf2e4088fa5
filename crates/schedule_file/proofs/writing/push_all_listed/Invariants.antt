use Rattle.std.proofs.Common.{◌≡◌, ◌++◌, map, take}
use Rattle.std.specs.List.{flat_map}
use Rattle.replay_defs.specs.Schedules.{listed_bytes}
use Rattle.schedule_file.specs.Views.{listed}
use Rattle.schedule_file.proofs.writing.push_all_listed.Given as goal

abbrev pub invariant-loop-listed : goal.invariant-loop-listed
invariant-loop-listed l = l.out.items ≡ l.initial.out.items ++ flat_map listed_bytes (map listed (take l.listed-index l.processes))
