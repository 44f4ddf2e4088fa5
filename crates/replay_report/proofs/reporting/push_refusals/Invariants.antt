use Rattle.std.proofs.Common.{◌≡◌, ◌++◌, map, take}
use Rattle.std.specs.List.{flat_map}
use Rattle.replay_defs.specs.Reports.{refused_line}
use Rattle.replay_questions.specs.Worlds.{refused}
use Rattle.replay_report.proofs.reporting.push_refusals.Given as goal

abbrev pub invariant-loop-one : goal.invariant-loop-one
invariant-loop-one l = l.out.items ≡ l.fn.out.items ++ flat_map refused_line (map refused (take l.one-index l.refused))
