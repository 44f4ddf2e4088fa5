use Rattle.std.proofs.Common.{List, ◌++◌, map, ap, ◌∙◌}
use Rattle.std.specs.List.{flat_map}
use Rattle.schedule_file.specs.Views.{listed}
use Rattle.happenings.specs.Events.{note}
use Rattle.member_events.specs.declared.events.Note.{Note}
use Rattle.picture_defs.specs.Drawing.{note_bar}
use Rattle.story_picture.proofs.bars.push_seen_bars.Goals as goal

pub returns : goal.returns
returns c =
    c.in_ok-push_note_bars.ensures
    ∙ ap (λ (xs : List Note). c.args.out.now.items
    ++ flat_map (note_bar (map listed c.args.processes.now) c.args.n c.args.p c.args.k) (map note xs))
    c.deref.ensures.value
