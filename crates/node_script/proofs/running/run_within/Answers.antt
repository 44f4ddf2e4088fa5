use Rattle.std.proofs.Common.{ℕ, subst}
use Rattle.node_traces.specs.Seen.{link_seen, sink_seen}
use Rattle.node_snapping.specs.Stops.{stop as stop_of}
use Rattle.node_snapping.specs.Hosts.{cast_in}
use Rattle.node_script.specs.Ends.{HasStopCause}
use Rattle.node_snapping.specs.Snapping.{snapper}
use Rattle.node_script.proofs.Ending.{ends-at-last, untold, untold-is}
use Rattle.node_script.proofs.NoDisk.{ended-cause}
use Rattle.node_script.proofs.running.run_within.Goals as goal

pub returns-in-Ok-clause-ends : goal.returns-in-Ok-clause-ends
returns-in-Ok-clause-ends g c = λ reported f k h n some has seen is lines script.
    let on = c.in-Ok.ensures.goes_on reported f k h n some has seen is lines script in
    let so = on.holds in
    record {
      history = on.history;
      has = on.has;
      holds = (
        _,
        ends-at-last g.D.Disk.seen g.D.Disk.may_leave g.D.Disk.moment g.D.Disk.left_since (λ d image left. g.D.Disk.only_now d image left)
            (snapper f.head f.begins reported) c.args.most f _ _ _
            (cast_in c.args.running) n _
            (link_seen g.L.Link.sent g.L.Link.coming g.L.Link.faults c.each_line.new.link)
            (sink_seen g.K.Sink.written g.K.Sink.faults c.each_line.new.output) on.history c.args.disk.now c.each_line.new.disk c.in-Ok._node
            c.args.go (stop_of c.end_at_last.result) so.source lines script so.holds (c.end_at_last.ensures so.source so.seen),
      );
    }

pub returns-in-Ok-clause-cause : goal.returns-in-Ok-clause-cause
returns-in-Ok-clause-cause g c =
    let end = c.end_at_last.ensures (untold (g.S.Source.faults c.each_line.new.input)) (untold-is _ _ _) in
    subst (λ (n : ℕ). HasStopCause n (g.D.Disk.faults c.each_line.new.disk) c.end_at_last.result) c.in-Ok.ensures.cause
    (ended-cause c.args.most _ (g.D.Disk.faults c.each_line.new.disk) _ end.source c.end_at_last.result end.holds)
