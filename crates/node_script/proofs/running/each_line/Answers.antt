use Rattle.std.proofs.Common.{◌≡◌, ◌+◌, ℕ, false, refl, subst, ◌∙◌, arith}
use Rattle.node_defs.specs.Nodes.{Node}
use Rattle.node_defs.specs.Scripts.{most_lines}
use Rattle.node_traces.specs.Seen.{link_seen, sink_seen}
use Rattle.node_traces.specs.Service.{HeardBy}
use Rattle.node_input.specs.Sources.{SeenAs}
use Rattle.node_snapping.specs.Stops.{stop as stop_of, StopsByDisk}
use Rattle.node_snapping.specs.Hosts.{cast_in}
use Rattle.node_snapping.specs.Taking.{outside}
use Rattle.node_snapping.specs.Snapping.{snapper}
use Rattle.node_script.specs.Ends.{ReadsOn}
use Rattle.node_script.proofs.Ending.{at-line, at-line-is, has-node, then-more, then-stops, untold, untold-is}
use Rattle.node_script.proofs.Joined.{none-read}
use Rattle.node_script.proofs.running.each_line.Goals as goal

pub lines-init : goal.lines-init
lines-init g c = record {
  node = c.requires.node;
  read = λ reported f k h n some has seen is lines script. record {
    history = h;
    has = has;
    holds = record {
      source = k;
      seen = seen;
      holds = none-read g.D.Disk.seen g.D.Disk.may_leave g.D.Disk.moment g.D.Disk.left_since
          (λ d image left. g.D.Disk.only_now d image left) (snapper f.head f.begins reported)
          c.args.most f c.args.running n
          (outside (link_seen g.L.Link.sent g.L.Link.coming g.L.Link.faults c.args.link.now)
          (sink_seen g.K.Sink.written g.K.Sink.faults c.args.output.now) k h) c.args.disk.now is;
    };
  };
  steady = refl;
}

pub lines-preserved : goal.lines-preserved
lines-preserved g c =
    let here : Node = c.lines.invariant.node.node in
    let faults : ℕ = g.S.Source.faults c.lines.input in
    let begun = g.V.Service.begun c.lines.service in
    let next = c.in-Ok.ensures.goes_on false c.lines.invariant.node.from (untold faults) begun.history (at-line here (c.args.go + c.lines.count) c.lines.count)
    (λ e. absurd cc) begun.has (untold-is _ _ faults)
    (at-line-is c.lines.invariant.node.from (g.D.Disk.seen c.lines.disk) (g.D.Disk.may_leave c.lines.disk) c.lines.running here c.lines.invariant.node.tasks
    (c.args.go + c.lines.count) c.lines.count c.lines.invariant.node.is) refl refl in
    record {
      node = has-node g.D.Disk.seen g.D.Disk.may_leave g.D.Disk.moment g.D.Disk.left_since (λ d image left. g.D.Disk.only_now d image left)
          (snapper c.lines.invariant.node.from.head c.lines.invariant.node.from.begins false) c.args.most c.lines.invariant.node.from
          c.next_line.new.lines.ahead (g.S.Source.left c.next_line.new.input) (g.S.Source.faults c.next_line.new.input)
          (cast_in c.lines.running) (at-line here (c.args.go + c.lines.count) c.lines.count)
          (outside (link_seen g.L.Link.sent g.L.Link.coming g.L.Link.faults c.lines.link)
          (sink_seen g.K.Sink.written g.K.Sink.faults c.lines.output) (untold faults) begun.history)
          (link_seen g.L.Link.sent g.L.Link.coming g.L.Link.faults c.next_line.new.link)
          (sink_seen g.K.Sink.written g.K.Sink.faults c.next_line.new.output) c.lines.disk c.next_line.new.disk 1 c.in-Ok.next next.history
          next.holds;
      read = λ reported f k h n some has seen is lines script.
          let on = c.lines.invariant.read reported f k h n some has seen is lines script in
          let so = on.holds in
          let more = c.in-Ok.ensures.goes_on reported f so.source on.history so.holds.node (λ e. so.holds.went.tells (some e)) on.has so.seen so.holds.is
          (omega (arith, so.holds.lines, lines)) (omega (arith, so.holds.script, script)) in
          record {
            history = more.history;
            has = more.has;
            holds = then-more g.D.Disk.seen g.D.Disk.may_leave g.D.Disk.moment g.D.Disk.left_since
                (λ d image left. g.D.Disk.only_now d image left) (snapper f.head f.begins reported) c.args.most f
                c.next_line.new.lines.ahead (g.S.Source.left c.next_line.new.input) (g.S.Source.faults c.next_line.new.input)
                (cast_in c.args.running) n (outside (link_seen g.L.Link.sent g.L.Link.coming g.L.Link.faults c.args.link.now)
                (sink_seen g.K.Sink.written g.K.Sink.faults c.args.output.now) k h)
                (link_seen g.L.Link.sent g.L.Link.coming g.L.Link.faults c.lines.link)
                (link_seen g.L.Link.sent g.L.Link.coming g.L.Link.faults c.next_line.new.link)
                (sink_seen g.K.Sink.written g.K.Sink.faults c.lines.output)
                (sink_seen g.K.Sink.written g.K.Sink.faults c.next_line.new.output) so.source on.history more.history c.args.disk.now
                c.lines.disk c.next_line.new.disk c.lines.count c.lines.running so.holds c.in-Ok.next 1 more.holds;
          };
      steady = c.in-Ok.ensures.cause ∙ c.lines.invariant.steady;
    }

pub returns-in-Err-clause-stops : goal.returns-in-Err-clause-stops
returns-in-Err-clause-stops g c = λ reported f k h n some has seen is lines script.
    let on = c.lines.invariant.read reported f k h n some has seen is lines script in
    let so = on.holds in
    let stops = c.in-Err.ensures.stops reported f so.source on.history so.holds.node (λ e. so.holds.went.tells (some e)) on.has so.seen so.holds.is
    (omega (arith, so.holds.lines, lines)) (omega (arith, so.holds.script, script)) in
    record {
      history = stops.history;
      has = stops.has;
      holds = (
        stops.holds.0,
        then-stops g.D.Disk.seen g.D.Disk.may_leave g.D.Disk.moment g.D.Disk.left_since (λ d image left. g.D.Disk.only_now d image left)
            (snapper f.head f.begins reported) c.args.most f stops.holds.0
            (g.S.Source.left c.next_line.new.input) (g.S.Source.faults c.next_line.new.input)
            (cast_in c.args.running) n (outside (link_seen g.L.Link.sent g.L.Link.coming g.L.Link.faults c.args.link.now)
            (sink_seen g.K.Sink.written g.K.Sink.faults c.args.output.now) k h)
            (link_seen g.L.Link.sent g.L.Link.coming g.L.Link.faults c.lines.link)
            (link_seen g.L.Link.sent g.L.Link.coming g.L.Link.faults c.next_line.new.link)
            (sink_seen g.K.Sink.written g.K.Sink.faults c.lines.output)
            (sink_seen g.K.Sink.written g.K.Sink.faults c.next_line.new.output) so.source on.history stops.history c.args.disk.now c.lines.disk
            c.next_line.new.disk c.lines.count c.lines.running so.holds (stop_of c.in-Err.stop) stops.holds.1,
      );
    }

pub returns-clause-goes_on : goal.returns-clause-goes_on
unfolding most_lines
returns-clause-goes_on g c = λ reported f k h n some has seen is lines script.
    let all : c.lines.count ≡ most_lines = omega (arith, c.lines.auto.count-end, c.lines-test.false) in
    subst (λ (m : ℕ). HeardBy g.V.Service.heard c.lines.service (λ i. SeenAs (λ o. ReadsOn g.D.Disk.seen g.D.Disk.may_leave
    g.D.Disk.moment g.D.Disk.left_since (cast_in c.args.running) (snapper f.head f.begins reported (cast_in c.args.running)) c.args.most f n
    (outside (link_seen g.L.Link.sent g.L.Link.coming g.L.Link.faults c.args.link.now)
    (sink_seen g.K.Sink.written g.K.Sink.faults c.args.output.now) k h) c.args.disk.now m
    (outside (link_seen g.L.Link.sent g.L.Link.coming g.L.Link.faults c.lines.link) (sink_seen g.K.Sink.written g.K.Sink.faults
    c.lines.output) o i)
    c.lines.disk c.lines.running) c.lines.lines.ahead (g.S.Source.left c.lines.input) (g.S.Source.faults c.lines.input))) all
    (c.lines.invariant.read reported f k h n some has seen is lines script)

pub returns-in-Err-clause-cause : goal.returns-in-Err-clause-cause
returns-in-Err-clause-cause g c = subst (λ (n : ℕ). StopsByDisk n (g.D.Disk.faults c.next_line.new.disk) (stop_of c.in-Err.stop))
    c.lines.invariant.steady c.in-Err.ensures.cause
