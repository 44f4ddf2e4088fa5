use Rattle.std.proofs.Common.{map}
use Rattle.schedule_file.specs.Views.{listed}
use Rattle.picture_defs.specs.Drawing.{arrow}
use Rattle.story_picture.proofs.Numbered.{row_more}
use Rattle.story_picture.proofs.arrows.push_arrows.Goals as goal

pub loop-k-preserved : goal.loop-k-preserved
loop-k-preserved c =
    row_more (λ k e what. arrow (map listed c.args.processes.now) c.args.sent.now k what) c.args.rows.now c.loop-k.k c.index-rows-k.result
    c.args.out.now.items c.loop-k.out.items c.push_arrow.new.out.items
    c.loop-k-test.true c.index-rows-k.is c.loop-k.invariant c.in_ok-push_arrow.ensures
