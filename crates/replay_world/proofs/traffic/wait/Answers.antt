use Rattle.std.proofs.Common.{map}
use Rattle.std.specs.VecDeque.{deque_items}
use Rattle.replay_world.specs.Traffic.{delivery}
use Rattle.replay_world.proofs.Carrying.{waits_next, waits_done}
use Rattle.replay_world.proofs.traffic.wait.Goals as goal

pub loop-player-preserved : goal.loop-player-preserved
loop-player-preserved c =
    waits_next c.args.frame c.args.to c.args.players.now c.loop-player.player-index c.player-item.result
    (map delivery (deque_items c.loop-player.pending)) _ _
    c.loop-player-test.true c.player-item.is c.loop-player.invariant c.in_ok-wait_for.ensures

pub returns : goal.returns
returns c = waits_done c.args.frame c.args.to c.args.players.now c.loop-player.player-index _ _ c.loop-player-test.false
    c.loop-player.invariant
