use Rattle.node_traces.specs.Seen.{sink_seen}
use Rattle.node_loop.proofs.Last.{has-line, has-none, says, says-nothing}
use Rattle.node_loop.proofs.last_lines.say.Goals as goal

pub returns-then-not-is_empty : goal.returns-then-not-is_empty
returns-then-not-is_empty g c = says c.write_all.result c.args.line.now (sink_seen g.K.Sink.written g.K.Sink.faults c.args.output.now)
    (sink_seen g.K.Sink.written g.K.Sink.faults c.write_all.new.output)
    (has-line c.is_empty.result c.args.line.now c.is_empty.ensures c.if-not-is_empty.true) c.write_all.ensures.bytes c.write_all.ensures.part
    c.write_all.ensures.failed c.write_all.ensures.steady

pub returns-else-not-is_empty : goal.returns-else-not-is_empty
returns-else-not-is_empty g c = says-nothing c.args.line.now (sink_seen g.K.Sink.written g.K.Sink.faults c.args.output.now)
    (has-none c.is_empty.result c.args.line.now c.is_empty.ensures c.if-not-is_empty.false)
