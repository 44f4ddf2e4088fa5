use Rattle.std.proofs.Common.{◌≡◌, ◌≤◌, length}
use Rattle.std.specs.Prelude.{IsTrue}
use Rattle.byte_defs.specs.Members.{has}
use Rattle.node_traces.specs.Seen.{link_seen, sink_seen}
use Rattle.node_taking.specs.Hosts.{numbers_of}
use Rattle.node_taking.specs.Taking.{HasNode}
use Rattle.node_taking.proofs.Leads.{around}
use Rattle.node_receiving.proofs.Loop.{SoFar}
use Rattle.node_receiving.proofs.receiving.receive_each.Given as goal

-- so many datagrams came, and the disk has not failed
abbrev pub invariant-receives : goal.invariant-receives
invariant-receives g l = record {
  node : HasNode (g.D.Disk.seen l.disk) (g.D.Disk.may_leave l.disk) l.last;
  hosted : IsTrue (has (numbers_of l.last.hosts) l.me);
  came : SoFar g.D.Disk.seen g.D.Disk.may_leave g.D.Disk.moment g.D.Disk.left_since g.V.Service.heard
      (λ d image left. g.D.Disk.only_now d image left) l.me l.most l.fn.running
      (around l.fn.disk l.fn.service (link_seen g.L.Link.sent g.L.Link.coming g.L.Link.faults l.fn.link)
      (sink_seen g.K.Sink.written g.K.Sink.faults l.fn.output)) l.count l.last
      (around l.disk l.service (link_seen g.L.Link.sent g.L.Link.coming g.L.Link.faults l.link)
      (sink_seen g.K.Sink.written g.K.Sink.faults l.output));
  steady : g.D.Disk.faults l.disk ≡ g.D.Disk.faults l.fn.disk;
  coming : length l.coming ≡ 61440;
  sealed : 61054 ≤ length l.sealed;
}
