use Rattle.std.proofs.Common.{ℕ, List, ◌++◌, map, ap, ◌∙◌}
use Rattle.schedule_file.specs.Views.{listed}
use Rattle.picture_defs.specs.Drawing.{arrow}
use Rattle.picture_defs.specs.Pictures.{each_row}
use Rattle.story_picture.specs.Views.{row}
use Rattle.story_picture.proofs.picture.push_frames.Goals as goal

pub returns : goal.returns
returns c =
    let ls = map listed c.args.processes.now in
    c.in_ok-push_arrows.ensures
    ∙ ap (λ (sent : List ℕ). c.args.out.now.items ++ each_row (λ k e what. arrow ls sent k what) (map row c.args.rows.now))
    (c.deref.ensures.value ∙ c.in_ok-sent.ensures)
