use Rattle.std.proofs.lemmas.Result.{err_from_is_err_and}
use Rattle.node_defs.specs.Casts.{cast_of}
use Rattle.node_traces.specs.Seen.{sink_seen}
use Rattle.node_opening.proofs.Presented.{serves, serves-not, serves-untold}
use Rattle.node_opening.proofs.presenting.serve.Goals as goal

pub returns-in_err-start-clause-stops : goal.returns-in_err-start-clause-stops
returns-in_err-start-clause-stops g c = λ v snap most n link source h are has ready.
    let out = err_from_is_err_and c.from_residual.result c.from_residual.ensures.1 in
    rw (out.1, out.2) (serves-not g.V.Service.heard c.start.new.self (cast_of c.args.kit.now v) snap most n link source h ready
    (sink_seen g.K.Sink.written g.K.Sink.faults c.args.output.now) (c.in_err-start.ensures.lost h has))

pub returns-in-Ok-clause-serves : goal.returns-in-Ok-clause-serves
returns-in-Ok-clause-serves g c = λ v snap most n link source h are has ready.
    serves g.V.Service.heard c.start.new.self (cast_of c.args.kit.now v) snap most n link source h ready
    (sink_seen g.K.Sink.written g.K.Sink.faults c.args.output.now) (sink_seen g.K.Sink.written g.K.Sink.faults c.write_all.new.output)
    _ _ _ c.new-text.ensures.items c.as_slice.ensures.value (c.in_ok-start.ensures.tells v n.now h has are)
    (record { appended = c.in-Ok.ensures.bytes; steady = c.in-Ok.ensures.steady })

pub returns-clause-stops : goal.returns-clause-stops
returns-clause-stops g c = λ v snap most n link source h are has ready.
    serves-untold g.V.Service.heard c.start.new.self (cast_of c.args.kit.now v) snap most n link source h ready
    (sink_seen g.K.Sink.written g.K.Sink.faults c.args.output.now) (sink_seen g.K.Sink.written g.K.Sink.faults c.write_all.new.output)
    _ _ _ c.new-text.ensures.items c.as_slice.ensures.value (c.in_ok-start.ensures.tells v n.now h has are)
    (record { front = c.in-Err.ensures.part; rose = c.in-Err.ensures.failed })
