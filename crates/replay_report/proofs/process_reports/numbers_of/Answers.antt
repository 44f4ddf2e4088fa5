use Rattle.std.proofs.Common.{Bool, eqb, ap, sym, ◌∙◌}
use Rattle.std.specs.Prelude.{◌||◌}
use Rattle.replay_questions.specs.Cast.{process_of}
use Rattle.schedule_header.proofs.Processes.{has-put_once, list_any-next}
use Rattle.replay_report.proofs.process_reports.numbers_of.Goals as goal

pub loop-player-preserved : goal.loop-player-preserved
loop-player-preserved c p =
    rw c.insert.ensures
    (has-put_once c.player-item.result.process c.loop-player.all p
    ∙ ap (λ (b : Bool). eqb c.player-item.result.process p || b) (c.loop-player.invariant p)
    ∙ sym (list_any-next process_of
    (λ q. eqb q p) c.args.players.now c.loop-player.player-index c.player-item.result c.loop-player-test.true c.player-item.is))
