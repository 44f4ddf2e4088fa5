use Rattle.std.proofs.Common.{◌≡◌, ◌++◌, map, take}
use Rattle.schedule_file.specs.Views.{listed}
use Rattle.picture_defs.specs.Drawing.{arrow}
use Rattle.picture_defs.specs.Pictures.{each_row}
use Rattle.story_picture.specs.Views.{row}
use Rattle.story_picture.proofs.arrows.push_arrows.Given as goal

abbrev pub invariant-loop-k : goal.invariant-loop-k
invariant-loop-k l = l.out.items ≡ l.fn.out.items
    ++ each_row (λ k e what. arrow (map listed l.processes) l.sent k what) (map row (take l.k l.rows))
