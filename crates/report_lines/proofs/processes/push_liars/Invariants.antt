use Rattle.std.proofs.Common.{◌≡◌, ◌++◌}
use Rattle.std.specs.List.{flat_map}
use Rattle.replay_defs.specs.Reports.{liar_line}
use Rattle.rp_base.specs.PidsLeft.{pids_left}
use Rattle.report_lines.proofs.processes.push_liars.Given as goal

abbrev pub invariant-loop-liar : goal.invariant-loop-liar
invariant-loop-liar l = l.out.items ++ flat_map (liar_line l.me) (pids_left l.liar-iterator) ≡ l.fn.out.items
    ++ flat_map (liar_line l.me) l.fn.liars
