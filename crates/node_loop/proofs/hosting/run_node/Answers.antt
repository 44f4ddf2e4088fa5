use Rattle.std.proofs.Common.{[], None, subst}
use Rattle.std.specs.Prelude.{is_some}
use Rattle.node_defs.specs.Lives.{fresh}
use Rattle.node_defs.specs.Nodes.{Snapper}
use Rattle.node_traces.specs.Outside.{SourceSeen}
use Rattle.node_traces.specs.Seen.{link_seen, sink_seen}
use Rattle.node_opening.specs.Begins.{outset}
use Rattle.node_script.specs.Words.{StopsByDisk, cast_in, stop as stop_of}
use Rattle.node_script.specs.Sources.{line_limit}
use Rattle.node_loop.specs.Resumed.{NodeEnds, stays_shut}
use Rattle.node_loop.specs.Runs.{snaps_from}
use Rattle.node_loop.proofs.Limits.{at-limit}
use Rattle.node_loop.proofs.Joined.{whole}
use Rattle.node_loop.proofs.hosting.run_node.Goals as goal

pub run_script-requires : goal.run_script-requires
run_script-requires g c =
    let nobody : Snapper = λ m digest. [] in
    let source : SourceSeen = record { left = None; faults = 0 } in
    let begun = g.V.Service.begun c.args.service.now in
    let by = c.requires.begins in
    let opened = (c.in-Ok.ensures.opens by.0 nobody 0 0 source begun.history by.1 begun.has).holds in
    record {
      node = record {
        from = outset (cast_in c.in-Ok.running) by.0 (g.D.Disk.seen c.open.new.disk) fresh;
        node = opened.node;
        tasks = [];
        is = opened.is fresh;
      };
    }

pub returns-in-Ok-clause-stops : goal.returns-in-Ok-clause-stops
returns-in-Ok-clause-stops g c = λ s f l h by has seen.
    let reported = is_some (g.D.Disk.seen c.args.disk.now) in
    let from = outset (cast_in c.in-Ok.running) s (g.D.Disk.seen c.open.new.disk) f in
    let snap = snaps_from from (g.D.Disk.seen c.args.disk.now) (cast_in c.in-Ok.running) in
    let most = c.most_of_line-most.result in
    let on = c.in-Ok.ensures.opens s snap most c.args.go l h by has in
    let opened = on.holds in
    let ends = c.run_script.ensures.ends reported from l on.history opened.node (λ some. opened.tells some) on.has seen (opened.is f) opened.read
    opened.script in
    at-limit g.V.Service.heard c.run_script.new.service (λ m i. NodeEnds g.D.Disk.seen g.D.Disk.may_leave g.D.Disk.moment g.D.Disk.left_since
    c.args.kit.now s m f c.args.go l (link_seen g.L.Link.sent g.L.Link.coming g.L.Link.faults c.args.link.now)
    (sink_seen g.K.Sink.written g.K.Sink.faults c.args.output.now) c.args.disk.now (g.S.Source.left c.run_script.new.input)
    (g.S.Source.faults c.run_script.new.input) (link_seen g.L.Link.sent g.L.Link.coming g.L.Link.faults c.run_script.new.link)
    (sink_seen g.K.Sink.written g.K.Sink.faults c.run_script.new.output) c.run_script.new.disk h i (stop_of c.run_script.result)) most
    c.longest.result (g.V.Service.longest_line c.args.service.now) c.most_of_line-most.ensures c.longest.ensures (record {
      history = ends.history;
      has = ends.has;
      holds = whole g.D.Disk.seen g.D.Disk.may_leave g.D.Disk.moment g.D.Disk.left_since (λ d. g.D.Disk.reads_image d) c.in-Ok.running most f
          c.args.go l
          (link_seen g.L.Link.sent g.L.Link.coming g.L.Link.faults c.args.link.now)
          (link_seen g.L.Link.sent g.L.Link.coming g.L.Link.faults c.open.new.link)
          (link_seen g.L.Link.sent g.L.Link.coming g.L.Link.faults c.run_script.new.link)
          (sink_seen g.K.Sink.written g.K.Sink.faults c.args.output.now) (sink_seen g.K.Sink.written g.K.Sink.faults c.open.new.output)
          (sink_seen g.K.Sink.written g.K.Sink.faults c.run_script.new.output) c.args.disk.now c.open.new.disk c.run_script.new.disk h on.history
          ends.history (g.S.Source.left c.run_script.new.input) (g.S.Source.faults c.run_script.new.input) c.args.kit.now
          c.in-Ok.ensures.kit s opened (λ version es some stands. c.open.ensures.moments s version es by some stands) (stop_of c.run_script.result)
          ends.holds.0 ends.holds.1;
    })

pub returns-in-Ok-clause-cause : goal.returns-in-Ok-clause-cause
returns-in-Ok-clause-cause g c = subst (λ k. StopsByDisk k (g.D.Disk.faults c.run_script.new.disk) (stop_of c.run_script.result))
    c.in-Ok.ensures.cause c.run_script.ensures.cause

pub returns-in-Err-clause-stops : goal.returns-in-Err-clause-stops
returns-in-Err-clause-stops g c = λ s f l h by has seen.
    let nobody : Snapper = λ m digest. [] in
    let most = line_limit (g.V.Service.longest_line c.args.service.now) in
    let stops = c.in-Err.ensures.stops s nobody most c.args.go l h by has in
    record {
      history = stops.history;
      has = stops.has;
      holds = stays_shut (stop_of c.in-Err.why) c.args.lines.now.ahead seen (record {
        snap = nobody;
        unopened = stops.holds;
        leaves = λ version some stands. c.open.ensures.moments s version f.sure by some stands;
        finds = λ version some stands. c.open.ensures.stands s version f.sure by some stands;
      });
    }

pub open-requires : goal.open-requires
open-requires g c = record { kit = c.requires.kit; begins = c.requires.begins }

pub returns-in-Err-clause-cause : goal.returns-in-Err-clause-cause
returns-in-Err-clause-cause g c = c.in-Err.ensures.cause
