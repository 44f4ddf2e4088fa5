use Rattle.std.proofs.Common.{◌≡◌, Bool, [], List}
use Rattle.std.specs.Prelude.{IsSome, IsTrue}
use Rattle.node_defs.specs.Nodes.{Node}
use Rattle.node_traces.specs.Stops.{Outset}
use Rattle.node_traces.specs.Outside.{SourceSeen}
use Rattle.node_traces.specs.Seen.{link_seen, sink_seen}
use Rattle.node_traces.specs.Service.{Asked, HeardBy}
use Rattle.node_input.specs.Sources.{IsSeen, SeenAs}
use Rattle.node_snapping.specs.Hosts.{IsNode, cast_in}
use Rattle.node_snapping.specs.Taking.{HasNode, outside}
use Rattle.node_snapping.specs.Snapping.{snapper}
use Rattle.node_script.specs.Ends.{ReadsOn}
use Rattle.node_script.proofs.running.each_line.Given as goal

-- so many lines were read and carried out
abbrev pub invariant-lines : goal.invariant-lines
invariant-lines g l = record {
  node : HasNode (g.D.Disk.seen l.disk) (g.D.Disk.may_leave l.disk) l.running;
  read : (reported : Bool) (f : Outset) (k : SourceSeen) (h : List Asked) (n : Node) → (IsTrue reported → IsSome (g.D.Disk.seen l.fn.disk))
      → g.V.Service.heard l.fn.service h
      → IsSeen k l.fn.lines.ahead (g.S.Source.left l.fn.input) (g.S.Source.faults l.fn.input)
      → IsNode f (g.D.Disk.seen l.fn.disk) (g.D.Disk.may_leave l.fn.disk) l.fn.running n [] → n.lines ≡ l.fn.go → n.script ≡ 0
      → HeardBy g.V.Service.heard l.service (λ i. SeenAs (λ o. ReadsOn g.D.Disk.seen g.D.Disk.may_leave g.D.Disk.moment
      g.D.Disk.left_since (cast_in l.fn.running) (snapper f.head f.begins reported (cast_in l.fn.running)) l.fn.most f n
      (outside (link_seen g.L.Link.sent g.L.Link.coming g.L.Link.faults l.fn.link) (sink_seen g.K.Sink.written g.K.Sink.faults
      l.fn.output) k h)
      l.fn.disk l.count
      (outside (link_seen g.L.Link.sent g.L.Link.coming g.L.Link.faults l.link) (sink_seen g.K.Sink.written g.K.Sink.faults l.output) o i)
      l.disk l.running) l.lines.ahead (g.S.Source.left l.input) (g.S.Source.faults l.input));
  steady : g.D.Disk.faults l.disk ≡ g.D.Disk.faults l.fn.disk;
}
