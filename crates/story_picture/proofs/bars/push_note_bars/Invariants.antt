use Rattle.std.proofs.Common.{◌≡◌, ◌++◌, map, take}
use Rattle.std.specs.List.{flat_map}
use Rattle.schedule_file.specs.Views.{listed}
use Rattle.happenings.specs.Events.{note}
use Rattle.picture_defs.specs.Drawing.{note_bar}
use Rattle.story_picture.proofs.bars.push_note_bars.Given as goal

abbrev pub invariant-loop-note : goal.invariant-loop-note
invariant-loop-note l = l.out.items ≡ l.fn.out.items
    ++ flat_map (note_bar (map listed l.processes) l.n l.p l.k) (map note (take l.note-index l.notes))
