use Rattle.std.proofs.Common.{refl}
use Rattle.std.proofs.KnownBytes.{Consumes-nil}
use Rattle.node_traces.specs.Outside.{SourceSeen}
use Rattle.node_traces.specs.Seen.{source_seen}
use Rattle.node_script.specs.Words.{stop as stop_of}
use Rattle.node_loop.specs.Resumed.{no_kit}
use Rattle.node_loop.proofs.Statuses.{no-kit-no-disk}
use Rattle.node_loop.proofs.resuming.resume.Goals as goal

pub read_kit-requires : goal.read_kit-requires
read_kit-requires g c = λ i. (c.new-lines.ensures i).ahead

pub returns-in-Ok-clause-stops : goal.returns-in-Ok-clause-stops
returns-in-Ok-clause-stops g c = λ f h has.
    let k : SourceSeen = source_seen g.S.Source.left g.S.Source.faults c.args.input.now in
    let found = c.in-Ok.ensures.found k (record { bytes = Consumes-nil (g.S.Source.left c.args.input.now); count = refl }) in
    c.resume_node.ensures.stops f k found.source h has found.holds found.seen

pub returns-clause-stops : goal.returns-clause-stops
returns-clause-stops g c = λ f h has.
    let k : SourceSeen = source_seen g.S.Source.left g.S.Source.faults c.args.input.now in
    record {
      history = h;
      has = has;
      holds = no_kit (stop_of c.in-Err.stop)
          (c.in-Err.ensures.none k (record { bytes = Consumes-nil (g.S.Source.left c.args.input.now); count = refl })) refl refl refl refl;
    }

pub resume_node-requires : goal.resume_node-requires
resume_node-requires g c = c.in-Ok.ensures.kit

pub returns-in-Ok-clause-cause : goal.returns-in-Ok-clause-cause
returns-in-Ok-clause-cause g c = c.resume_node.ensures.cause

pub returns-clause-cause : goal.returns-clause-cause
returns-clause-cause g c =
    let k : SourceSeen = source_seen g.S.Source.left g.S.Source.faults c.args.input.now in
    no-kit-no-disk k _ _ (stop_of c.in-Err.stop)
    (c.in-Err.ensures.none k (record { bytes = Consumes-nil (g.S.Source.left c.args.input.now); count = refl }))
