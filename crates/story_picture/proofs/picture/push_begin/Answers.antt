use Rattle.std.proofs.Common.{ℕ, ◌++◌, map, ap, ◌∙◌}
use Rattle.schedule_file.specs.Views.{listed}
use Rattle.picture_defs.specs.Layout.{width}
use Rattle.picture_defs.specs.Pictures as plain
use Rattle.story_picture.proofs.picture.push_begin.Goals as goal

pub returns : goal.returns
returns c =
    let ls = map listed c.args.processes.now in
    c.in_ok-begin_picture.ensures
    ∙ ap (λ (w : ℕ). c.args.out.now.items ++ plain.picture_begin w c.in_ok-high.high) c.in_ok-wide.ensures
    ∙ ap (λ (h : ℕ). c.args.out.now.items ++ plain.picture_begin (width ls) h) c.in_ok-high.ensures
