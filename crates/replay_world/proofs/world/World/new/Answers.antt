use Rattle.std.proofs.Common.{refl}
use Rattle.schedule_file.specs.Views as views
use Rattle.replay_world.proofs.Beginning.{world_begins}
use Rattle.replay_world.proofs.world.World.new.Goals as goal

pub returns-clause-shows : goal.returns-clause-shows
returns-clause-shows c = world_begins
    (views.header c.args.header.now) _ _ c.requires c.in_ok-group.ensures refl refl refl refl refl c.new-2.ensures.items c.new-3.ensures.items
    refl c.new-4.ensures.items c.new-5.ensures.items c.new-6.ensures.items refl
