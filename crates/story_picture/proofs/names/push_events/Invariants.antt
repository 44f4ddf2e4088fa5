use Rattle.std.proofs.Common.{◌≡◌, ◌++◌, map, take}
use Rattle.schedule_file.specs.Views.{listed}
use Rattle.picture_defs.specs.Pictures.{each_row, event_begin}
use Rattle.story_picture.specs.Views.{row}
use Rattle.story_picture.proofs.names.push_events.Given as goal

abbrev pub invariant-loop-k : goal.invariant-loop-k
invariant-loop-k l = l.out.items ≡ l.fn.out.items
    ++ each_row (λ k e what. event_begin (map listed l.processes) (map row l.rows) k e) (map row (take l.k l.rows))
