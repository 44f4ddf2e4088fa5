use Rattle.std.proofs.Common.{◌≡◌, ◌++◌, ◌∙◌}
use Rattle.schedule_file.specs.Views as views
use Rattle.picture_defs.specs.Pictures.{picture}
use Rattle.story_cli.proofs.giving.picture.Goals as goal

pub returns : goal.returns
returns c =
    c.in_ok-push_picture.ensures
    ∙ (λ i. c.new-text.ensures.items i
    ++ picture (views.header c.args.schedule.now.header) (c.in_ok-reported.ensures.events i) (c.in_ok-reported.ensures.stop i))
