use Rattle.replay_defs.specs.Reports as plain
use Rattle.replay_report.proofs.Players.{at_same_place, written_next, written_all}
use Rattle.replay_report.proofs.reporting.push_players.Goals as goal

pub loop-player-preserved : goal.loop-player-preserved
loop-player-preserved c = λ s cs are.
    let a = at_same_place s c.args.players.now cs c.loop-player.player-index c.player-item.result are c.loop-player-test.true
    c.player-item.is in
    written_next (λ d. plain.block c.args.spent.now d.now) s cs c.loop-player.player-index c.player-item.result a c.loop-player.out.items _
    _ (c.loop-player.invariant s cs are)
    (c.in_ok-push_player.ensures s a.at a.plays)

pub returns : goal.returns
returns c = λ s cs are. written_all
    (λ d. plain.block c.args.spent.now d.now) s c.args.players.now cs c.loop-player.player-index c.loop-player.out.items _ are
    c.loop-player-test.false (c.loop-player.invariant s cs are)
