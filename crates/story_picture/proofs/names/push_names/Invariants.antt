use Rattle.std.proofs.Common.{◌≡◌, ◌++◌, map, take}
use Rattle.std.specs.List.{flat_map}
use Rattle.schedule_file.specs.Views.{listed}
use Rattle.picture_defs.specs.Pictures.{name}
use Rattle.story_picture.proofs.names.push_names.Given as goal

abbrev pub invariant-loop-one : goal.invariant-loop-one
invariant-loop-one l = l.out.items ≡ l.fn.out.items
    ++ flat_map (name (map listed l.processes)) (map listed (take l.one-index l.processes))
