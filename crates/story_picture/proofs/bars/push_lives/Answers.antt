use Rattle.std.proofs.Common.{map}
use Rattle.schedule_file.specs.Views.{listed}
use Rattle.picture_defs.specs.Drawing.{life}
use Rattle.story_picture.proofs.Numbered.{mapped_more}
use Rattle.story_picture.proofs.bars.push_lives.Goals as goal

pub loop-one-preserved : goal.loop-one-preserved
loop-one-preserved c =
    mapped_more (life (map listed c.args.processes.now) c.args.n) listed c.args.processes.now c.loop-one.one-index c.one-item.result
    c.args.out.now.items c.loop-one.out.items c.push_life.new.out.items
    c.loop-one-test.true c.one-item.is c.loop-one.invariant c.in_ok-push_life.ensures
