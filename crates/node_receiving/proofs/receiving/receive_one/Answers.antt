use Rattle.std.proofs.Common.{ℕ, ◌+◌, List, ◌++◌, sym, subst}
use Rattle.journal_rp.specs.Stages.{version_of}
use Rattle.node_defs.specs.Nodes.{Came, ReceivesOn, more_gets}
use Rattle.node_traces.specs.Outside.{LinkStep}
use Rattle.node_traces.specs.Seen.{link_seen, sink_seen}
use Rattle.node_taking.specs.Stops.{stop as stop_of}
use Rattle.node_taking.proofs.Expelled.{has-hosts}
use Rattle.node_receiving.proofs.Answered.{came-fault, came-none, one-stops, one-taken}
use Rattle.node_receiving.proofs.receiving.receive_one.Goals as goal

pub port_of-port-requires-clause-hosts : goal.port_of-port-requires-clause-hosts
port_of-port-requires-clause-hosts g c =
    has-hosts (g.D.Disk.seen c.args.disk.now) (g.D.Disk.may_leave c.args.disk.now) c.args.running c.requires.node

pub returns-in-Ok-clause-goes_on : goal.returns-in-Ok-clause-goes_on
returns-in-Ok-clause-goes_on g c = λ snap most f source h n left count ts has is.
    let k = link_seen g.L.Link.sent g.L.Link.coming g.L.Link.faults c.args.link.now in
    let l = link_seen g.L.Link.sent g.L.Link.coming g.L.Link.faults c.fetch.new.link in
    let m = link_seen g.L.Link.sent g.L.Link.coming g.L.Link.faults c.take_datagram.new.link in
    let s = sink_seen g.K.Sink.written g.K.Sink.faults c.args.output.now in
    let t = sink_seen g.K.Sink.written g.K.Sink.faults c.take_datagram.new.output in
    let step = subst (λ (bytes : List ℕ). LinkStep k (ReceivesOn c.port_of-port.result, Came bytes) l) (sym c.split_at.ensures.front)
    (rw c.in-Ok-Datagram.field-0-is at c.in-Ok-Datagram.ensures.step) in
    one-taken g.D.Disk.seen g.D.Disk.may_leave g.D.Disk.moment g.D.Disk.left_since (λ d image left. g.D.Disk.only_now d image left) snap most f
    c.args.running n c.args.me left count c.port_of-port.result ts k l s source h c.args.disk.now is
    (c.port_of-port.ensures (version_of c.args.running.journal)) g.V.Service.heard c.split_at.result.0.now step m t c.take_datagram.new.disk
    c.take_datagram.new.service c.in-Ok.running
    (λ w here. c.in-Ok.ensures.goes_on snap most f source h w (more_gets c.args.me left (count + 1) ++ ts) has here)

pub returns-in-Err-take_datagram-clause-stops : goal.returns-in-Err-take_datagram-clause-stops
returns-in-Err-take_datagram-clause-stops g c = λ snap most f source h n left count ts has is.
    let k = link_seen g.L.Link.sent g.L.Link.coming g.L.Link.faults c.args.link.now in
    let l = link_seen g.L.Link.sent g.L.Link.coming g.L.Link.faults c.fetch.new.link in
    let m = link_seen g.L.Link.sent g.L.Link.coming g.L.Link.faults c.take_datagram.new.link in
    let s = sink_seen g.K.Sink.written g.K.Sink.faults c.args.output.now in
    let t = sink_seen g.K.Sink.written g.K.Sink.faults c.take_datagram.new.output in
    let step = subst (λ (bytes : List ℕ). LinkStep k (ReceivesOn c.port_of-port.result, Came bytes) l) (sym c.split_at.ensures.front)
    (rw c.in-Ok-Datagram.field-0-is at c.in-Ok-Datagram.ensures.step) in
    one-stops g.D.Disk.seen g.D.Disk.may_leave g.D.Disk.moment g.D.Disk.left_since (λ d image left. g.D.Disk.only_now d image left) snap most f
    c.args.running n c.args.me left count c.port_of-port.result ts k l s source h c.args.disk.now is
    (c.port_of-port.ensures (version_of c.args.running.journal)) g.V.Service.heard c.split_at.result.0.now step m t c.take_datagram.new.disk
    c.take_datagram.new.service (stop_of c.in-Err-take_datagram.why)
    (λ w here. c.in-Err-take_datagram.ensures.stops snap most f source h w (more_gets c.args.me left (count + 1) ++ ts) has here)

pub returns-in-Ok-Nothing-clause-goes_on : goal.returns-in-Ok-Nothing-clause-goes_on
returns-in-Ok-Nothing-clause-goes_on g c = λ snap most f source h n left count ts has is.
    let k = link_seen g.L.Link.sent g.L.Link.coming g.L.Link.faults c.args.link.now in
    let l = link_seen g.L.Link.sent g.L.Link.coming g.L.Link.faults c.fetch.new.link in
    let s = sink_seen g.K.Sink.written g.K.Sink.faults c.args.output.now in
    let step = rw c.in-Ok-Nothing.field-0-is at c.in-Ok-Nothing.ensures.step in
    record {
      history = h;
      has = has;
      holds = came-none g.D.Disk.seen g.D.Disk.may_leave g.D.Disk.moment g.D.Disk.left_since (λ d image left. g.D.Disk.only_now d image left)
          snap most f c.args.running n c.args.me left count c.port_of-port.result ts k l s source h c.args.disk.now is
          (c.port_of-port.ensures (version_of c.args.running.journal)) step;
    }

pub returns-in-Err-clause-goes_on : goal.returns-in-Err-clause-goes_on
returns-in-Err-clause-goes_on g c = λ snap most f source h n left count ts has is.
    let k = link_seen g.L.Link.sent g.L.Link.coming g.L.Link.faults c.args.link.now in
    let l = link_seen g.L.Link.sent g.L.Link.coming g.L.Link.faults c.fetch.new.link in
    let s = sink_seen g.K.Sink.written g.K.Sink.faults c.args.output.now in
    record {
      history = h;
      has = has;
      holds = came-fault g.D.Disk.seen g.D.Disk.may_leave g.D.Disk.moment g.D.Disk.left_since
          (λ d image left. g.D.Disk.only_now d image left) snap most f c.args.running n c.args.me left count c.port_of-port.result ts k l s source h
          c.args.disk.now is (c.port_of-port.ensures (version_of c.args.running.journal)) c.in-Err.ensures.step;
    }
