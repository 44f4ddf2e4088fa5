use Rattle.std.proofs.Common.{map}
use Rattle.schedule_file.specs.Views.{listed}
use Rattle.picture_defs.specs.Pictures.{name}
use Rattle.story_picture.proofs.Numbered.{mapped_more}
use Rattle.story_picture.proofs.names.push_names.Goals as goal

pub loop-one-preserved : goal.loop-one-preserved
loop-one-preserved c =
    mapped_more (name (map listed c.args.processes.now)) listed c.args.processes.now c.loop-one.one-index c.one-item.result
    c.args.out.now.items c.loop-one.out.items c.push_name.new.out.items
    c.loop-one-test.true c.one-item.is c.loop-one.invariant c.in_ok-push_name.ensures
