use Rattle.replay_world.proofs.Places.{steps_at}
use Rattle.replay_world.proofs.world.step_at.Goals as goal

pub returns : goal.returns
returns c = steps_at c.args.scheme.now c.args.players.now.items c.args.i c.index_mut-player.result.now c.step.new.self c.args.event.now
    c.step.result c.requires c.index_mut-player.ensures.value c.step.ensures
