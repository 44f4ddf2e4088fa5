use Rattle.std.proofs.Common.{None, refl}
use Rattle.std.proofs.KnownBytes.{Consumes-nil}
use Rattle.node_traces.specs.Outside.{SourceSeen}
use Rattle.node_traces.specs.Seen.{link_seen, sink_seen, source_seen}
use Rattle.node_script.specs.Words.{stop as stop_of}
use Rattle.node_loop.specs.Runs.{no_kit}
use Rattle.node_loop.proofs.Started.{begun-at-start}
use Rattle.node_loop.proofs.Statuses.{no-kit-no-disk}
use Rattle.node_loop.proofs.hosting.run.Goals as goal

pub read_kit-requires : goal.read_kit-requires
read_kit-requires g c = λ i. (c.new-lines.ensures i).ahead

pub returns-in-Ok-clause-stops : goal.returns-in-Ok-clause-stops
returns-in-Ok-clause-stops g c = λ f h has.
    let k : SourceSeen = source_seen g.S.Source.left g.S.Source.faults c.args.input.now in
    let found = c.in-Ok.ensures.found k (record { bytes = Consumes-nil (g.S.Source.left c.args.input.now); count = refl }) in
    let ends = c.run_node.ensures.stops None f found.source h tt has found.seen in
    record {
      history = ends.history;
      has = ends.has;
      holds = begun-at-start g.D.Disk.seen g.D.Disk.may_leave g.D.Disk.moment g.D.Disk.left_since _ f k
          (link_seen g.L.Link.sent g.L.Link.coming g.L.Link.faults c.args.link.now)
          (sink_seen g.K.Sink.written g.K.Sink.faults c.args.output.now) c.args.disk.now _ _
          (link_seen g.L.Link.sent g.L.Link.coming g.L.Link.faults c.run_node.new.link)
          (sink_seen g.K.Sink.written g.K.Sink.faults c.run_node.new.output) c.run_node.new.disk h ends.history _ _ found.source found.holds
          (stop_of c.run_node.result) ends.holds;
    }

pub returns-clause-stops : goal.returns-clause-stops
returns-clause-stops g c = λ f h has.
    let k : SourceSeen = source_seen g.S.Source.left g.S.Source.faults c.args.input.now in
    record {
      history = h;
      has = has;
      holds = no_kit (stop_of c.in-Err.stop)
          (c.in-Err.ensures.none k (record { bytes = Consumes-nil (g.S.Source.left c.args.input.now); count = refl })) refl refl refl refl;
    }

pub run_node-requires : goal.run_node-requires
run_node-requires g c = record { kit = c.in-Ok.ensures.kit; begins = (None, tt) }

pub returns-in-Ok-clause-cause : goal.returns-in-Ok-clause-cause
returns-in-Ok-clause-cause g c = c.run_node.ensures.cause

pub returns-clause-cause : goal.returns-clause-cause
returns-clause-cause g c =
    let k : SourceSeen = source_seen g.S.Source.left g.S.Source.faults c.args.input.now in
    no-kit-no-disk k _ _ (stop_of c.in-Err.stop)
    (c.in-Err.ensures.none k (record { bytes = Consumes-nil (g.S.Source.left c.args.input.now); count = refl }))
