use Rattle.node_traces.specs.Seen.{link_seen, sink_seen}
use Rattle.node_snapping.specs.Snapping.{snapper}
use Rattle.node_script.proofs.Ending.{forgets-here}
use Rattle.node_script.proofs.running.run_script.Goals as goal

pub returns-in-Err-clause-ends : goal.returns-in-Err-clause-ends
returns-in-Err-clause-ends g c = λ reported f k h n some has seen is lines script. record {
  history = h;
  has = has;
  holds = forgets-here g.D.Disk.seen g.D.Disk.may_leave g.D.Disk.moment g.D.Disk.left_since (λ d image left. g.D.Disk.only_now d image left)
      (snapper f.head f.begins reported) c.args.most f c.args.lines.now.ahead (g.S.Source.left c.args.input.now) (g.S.Source.faults c.args.input.now) c.args.running n
      (link_seen g.L.Link.sent g.L.Link.coming g.L.Link.faults c.args.link.now)
      (sink_seen g.K.Sink.written g.K.Sink.faults c.args.output.now) k h c.args.disk.now is seen;
}
