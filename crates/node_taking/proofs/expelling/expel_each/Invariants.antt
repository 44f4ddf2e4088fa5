use Rattle.std.proofs.Common.{◌≡◌, ◌≤◌, length, map}
use Rattle.std.specs.Prelude.{IsTrue}
use Rattle.byte_defs.specs.Members.{has}
use Rattle.node_traces.specs.Seen.{link_seen, sink_seen}
use Rattle.sealing_laws.specs.Events.{event as event_of}
use Rattle.sealing_laws.specs.Running.{numbers_of}
use Rattle.sealing_laws.specs.Service.{note as note_of}
use Rattle.node_taking.specs.Taking.{HasNode}
use Rattle.node_taking.proofs.Expelled.{NamedSoFar, numbers_left}
use Rattle.node_taking.proofs.Leads.{around}
use Rattle.node_taking.proofs.expelling.expel_each.Given as goal

-- those below were expelled, and the disk has not failed
abbrev pub invariant-suspects : goal.invariant-suspects
invariant-suspects g l = record {
  node : HasNode (g.D.Disk.seen l.disk) (g.D.Disk.may_leave l.disk) l.running;
  hosted : IsTrue (has (numbers_of l.running.hosts) l.me);
  named : NamedSoFar g.D.Disk.seen g.D.Disk.may_leave g.D.Disk.moment g.D.Disk.left_since g.V.Service.heard
      (λ d image left. g.D.Disk.only_now d image left) l.fn.running
      (around l.fn.disk l.fn.service (link_seen g.L.Link.sent g.L.Link.coming g.L.Link.faults l.fn.link)
      (sink_seen g.K.Sink.written g.K.Sink.faults l.fn.output)) l.me (event_of l.event) (map note_of l.notes) l.above l.running
      (around l.disk l.service (link_seen g.L.Link.sent g.L.Link.coming g.L.Link.faults l.link)
      (sink_seen g.K.Sink.written g.K.Sink.faults l.output));
  steady : g.D.Disk.faults l.disk ≡ g.D.Disk.faults l.fn.disk;
  room : 61054 ≤ length l.room;
}

abbrev pub decreases-suspects : goal.decreases-suspects
decreases-suspects g l = numbers_left l.above
