use Rattle.std.proofs.Common.{◌≡◌, ◌++◌, ◌∷◌, [], List, map, drop}
use Rattle.std.specs.List.{flat_map}
use Rattle.group_defs.specs.Process.{Setting}
use Rattle.group_defs.specs.Accounts.{account_of}
use Rattle.replay_defs.specs.Worlds as plain
use Rattle.accounts.specs.Views.{account}
use Rattle.replay_questions.specs.Cast.{ArePlayers}
use Rattle.replay_report.proofs.process_reports.accounts_of.Given as goal

abbrev pub invariant-loop-player : goal.invariant-loop-player
invariant-loop-player l = (s : Setting) (cs : List plain.Player) → ArePlayers s l.players cs
    → map account l.all.items ++ flat_map (λ c. account_of c.now ∷ []) (drop l.player-index cs) ≡ flat_map (λ c. account_of c.now ∷ []) cs
