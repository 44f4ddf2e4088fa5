use Rattle.std.proofs.lemmas.Result.{err_from_is_err_and}
use Rattle.node_traces.specs.Seen.{link_seen, sink_seen}
use Rattle.node_defs.specs.Casts.{cast_of}
use Rattle.node_defs.specs.Nodes.{leaving_of}
use Rattle.node_taking.proofs.Answered.{forgot-by, says-cause, tells-by}
use Rattle.node_taking.proofs.telling.tell.Goals as goal

pub returns-clause-reported : goal.returns-clause-reported
returns-clause-reported g c = λ version o at h is has hosted.
    tells-by g.V.Service.heard c.let_out-out.new.service (cast_of c.args.kit.now version) at (leaving_of c.args.me o)
    (link_seen g.L.Link.sent g.L.Link.coming g.L.Link.faults c.args.link.now)
    (link_seen g.L.Link.sent g.L.Link.coming g.L.Link.faults c.let_out-out.new.link) h c.say.result
    (sink_seen g.K.Sink.written g.K.Sink.faults c.args.output.now) (sink_seen g.K.Sink.written g.K.Sink.faults c.say.new.output)
    c.new-text.result.items c.let_out-out.new.text.items c.as_slice.result.now c.new-text.ensures.items c.as_slice.ensures.value
    (c.in_ok-out.ensures.out version o at h is has hosted) c.say.ensures

pub returns-clause-cause : goal.returns-clause-cause
returns-clause-cause g c = says-cause c.say.result c.as_slice.result.now (sink_seen g.K.Sink.written g.K.Sink.faults c.args.output.now)
    (sink_seen g.K.Sink.written g.K.Sink.faults c.say.new.output) (g.D.Disk.faults c.args.disk.now) c.say.ensures

pub returns-in_err-out-clause-reported : goal.returns-in_err-out-clause-reported
returns-in_err-out-clause-reported g c = λ version o at h is has hosted.
    let p = err_from_is_err_and c.from_residual.result c.from_residual.ensures.1 in
    rw (p.1, p.2) (forgot-by g.V.Service.heard c.let_out-out.new.service (cast_of c.args.kit.now version) at (leaving_of c.args.me o)
    (link_seen g.L.Link.sent g.L.Link.coming g.L.Link.faults c.args.link.now)
    (link_seen g.L.Link.sent g.L.Link.coming g.L.Link.faults c.let_out-out.new.link) h (Unit {0})
    (sink_seen g.K.Sink.written g.K.Sink.faults c.args.output.now) (c.in_err-out.ensures.begun version o at h is has hosted))
