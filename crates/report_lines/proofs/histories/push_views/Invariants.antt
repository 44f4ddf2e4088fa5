use Rattle.std.proofs.Common.{◌≡◌, ◌++◌, take}
use Rattle.std.specs.List.{flat_map}
use Rattle.replay_defs.specs.Reports.{view_line}
use Rattle.report_lines.proofs.histories.push_views.Given as goal

abbrev pub invariant-loop-view : goal.invariant-loop-view
invariant-loop-view l = l.out.items ≡ l.fn.out.items ++ flat_map (view_line l.me) (take l.view-index l.views)
