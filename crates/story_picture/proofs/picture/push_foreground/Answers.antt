use Rattle.std.proofs.Common.{ℕ, List, ◌++◌, map}
use Rattle.schedule_file.specs.Views.{listed}
use Rattle.picture_defs.specs.Labels.{label}
use Rattle.picture_defs.specs.Pictures as plain
use Rattle.story_trace.proofs.Pieces.{behind}
use Rattle.story_picture.specs.Views.{row}
use Rattle.story_picture.proofs.picture.push_foreground.Goals as goal

pub returns : goal.returns
returns c =
    let ls = map listed c.args.processes.now in
    let rows : List plain.Row = map row c.args.rows.now in
    let labels : List ℕ = plain.each_row (λ k e what. label ls k what) rows in
    let cast : List ℕ = plain.cast ls c.args.genesis.now in
    let one = c.push_frames.new.out.items in
    let new = c.push_cast.new.out.items in
    behind c.args.out.now.items (plain.arrows ls rows) (labels ++ cast) one new c.in_ok-push_frames.ensures
    (behind one labels cast c.push_labels.new.out.items new c.in_ok-push_labels.ensures c.in_ok-push_cast.ensures)
