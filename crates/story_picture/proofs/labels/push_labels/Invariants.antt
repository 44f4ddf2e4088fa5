use Rattle.std.proofs.Common.{◌≡◌, ◌++◌, map, take}
use Rattle.schedule_file.specs.Views.{listed}
use Rattle.picture_defs.specs.Labels.{label}
use Rattle.picture_defs.specs.Pictures.{each_row}
use Rattle.story_picture.specs.Views.{row}
use Rattle.story_picture.proofs.labels.push_labels.Given as goal

abbrev pub invariant-loop-k : goal.invariant-loop-k
invariant-loop-k l = l.out.items ≡ l.fn.out.items
    ++ each_row (λ k e what. label (map listed l.processes) k what) (map row (take l.k l.rows))
