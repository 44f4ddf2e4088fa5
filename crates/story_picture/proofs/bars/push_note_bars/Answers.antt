use Rattle.std.proofs.Common.{map}
use Rattle.schedule_file.specs.Views.{listed}
use Rattle.happenings.specs.Events.{note}
use Rattle.picture_defs.specs.Drawing.{note_bar}
use Rattle.story_picture.proofs.Numbered.{mapped_more}
use Rattle.story_picture.proofs.bars.push_note_bars.Goals as goal

pub loop-note-preserved : goal.loop-note-preserved
loop-note-preserved c =
    mapped_more (note_bar (map listed c.args.processes.now) c.args.n c.args.p c.args.k)
    note c.args.notes.now c.loop-note.note-index c.note-item.result
    c.args.out.now.items c.loop-note.out.items c.push_note_bar.new.out.items
    c.loop-note-test.true c.note-item.is c.loop-note.invariant c.in_ok-push_note_bar.ensures
