use Rattle.std.proofs.Common.{◌≡◌, ℕ, map, take}
use Rattle.byte_defs.specs.Members.{has}
use Rattle.replay_questions.specs.Cast.{process_of}
use Rattle.replay_report.proofs.process_reports.numbers_of.Given as goal

abbrev pub invariant-loop-player : goal.invariant-loop-player
invariant-loop-player l = (p : ℕ) → has l.all p ≡ has (map process_of (take l.player-index l.players)) p
