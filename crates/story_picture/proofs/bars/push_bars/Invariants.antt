use Rattle.std.proofs.Common.{◌≡◌, ◌++◌, map, take}
use Rattle.schedule_file.specs.Views.{listed}
use Rattle.picture_defs.specs.Drawing.{bars}
use Rattle.picture_defs.specs.Pictures.{each_row}
use Rattle.story_picture.specs.Views.{row}
use Rattle.story_picture.proofs.bars.push_bars.Given as goal

abbrev pub invariant-loop-k : goal.invariant-loop-k
invariant-loop-k l = l.out.items ≡ l.fn.out.items
    ++ each_row (λ k e what. bars (map listed l.processes) l.n k what) (map row (take l.k l.rows))
