use Rattle.std.proofs.Common.{◌≡◌, ◌++◌, map, take}
use Rattle.std.specs.List.{flat_map}
use Rattle.replay_defs.specs.Reports.{message_line}
use Rattle.accounts.specs.Views.{delivery}
use Rattle.report_lines.proofs.histories.push_messages.Given as goal

abbrev pub invariant-loop-d : goal.invariant-loop-d
invariant-loop-d l = l.out.items ≡ l.fn.out.items ++ flat_map (message_line l.me l.x) (map delivery (take l.d-index l.delivered))
