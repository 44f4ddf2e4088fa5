use Rattle.std.proofs.Common.{map}
use Rattle.schedule_file.specs.Views.{listed}
use Rattle.picture_defs.specs.Pictures.{event_begin}
use Rattle.story_picture.specs.Views.{row}
use Rattle.story_picture.proofs.Numbered.{row_more}
use Rattle.story_picture.proofs.names.push_events.Goals as goal

pub loop-k-preserved : goal.loop-k-preserved
loop-k-preserved c =
    row_more (λ k e what. event_begin (map listed c.args.processes.now) (map row c.args.rows.now) k e)
    c.args.rows.now c.loop-k.k c.index-rows-k.result
    c.args.out.now.items c.loop-k.out.items c.begin_event.new.out.items
    c.loop-k-test.true c.index-rows-k.is c.loop-k.invariant c.in_ok-begin_event.ensures
