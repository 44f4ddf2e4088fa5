use Rattle.std.proofs.Common.{◌≡◌, ◌++◌, map, take}
use Rattle.std.specs.List.{flat_map, enumerate_from}
use Rattle.replay_defs.specs.Reports.{message_lines}
use Rattle.accounts.specs.Views.{delivery}
use Rattle.report_lines.proofs.histories.push_deliveries.Given as goal

abbrev pub invariant-loop-x : goal.invariant-loop-x
invariant-loop-x l = l.out.items ≡ l.fn.out.items
    ++ flat_map (message_lines l.me) (enumerate_from 0 (map (λ ds. map delivery ds.items) (take l.x l.delivered)))
