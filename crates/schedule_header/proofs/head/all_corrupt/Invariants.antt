use Rattle.std.proofs.Common.{◌≡◌, ℕ, map, take}
use Rattle.byte_defs.specs.Members.{has}
use Rattle.replay_defs.specs.Schedules.{is_corrupt}
use Rattle.schedule_file.specs.Views.{listed}
use Rattle.schedule_header.proofs.head.all_corrupt.Given as goal

abbrev pub invariant-loop-listed : goal.invariant-loop-listed
invariant-loop-listed l = (p : ℕ) → has l.corrupt p ≡ is_corrupt (map listed (take l.listed-index l.processes)) p
