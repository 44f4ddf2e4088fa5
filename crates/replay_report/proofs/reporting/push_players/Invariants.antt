use Rattle.std.proofs.Common.{◌≡◌, ◌++◌, List, drop}
use Rattle.std.specs.List.{flat_map}
use Rattle.group_defs.specs.Process.{Setting}
use Rattle.replay_defs.specs.Worlds as worlds
use Rattle.replay_defs.specs.Reports as plain
use Rattle.replay_questions.specs.Cast.{ArePlayers}
use Rattle.replay_report.proofs.reporting.push_players.Given as goal

abbrev pub invariant-loop-player : goal.invariant-loop-player
invariant-loop-player l = (s : Setting) (cs : List worlds.Player) → ArePlayers s l.players cs
    → l.out.items ++ flat_map (λ c. plain.block l.spent c.now) (drop l.player-index cs) ≡ l.fn.out.items
    ++ flat_map (λ c. plain.block l.spent c.now) cs
