use Rattle.std.proofs.Common.{[], Err, refl}
use Rattle.std.proofs.lemmas.Result.{err_from_is_err_and}
use Rattle.node_defs.specs.Casts.{cast_of}
use Rattle.node_traces.specs.Seen.{link_seen, sink_seen}
use Rattle.node_receiving.specs.Service.{letters_in}
use Rattle.node_receiving.specs.Stops.{stop as stop_of}
use Rattle.node_receiving.proofs.Handed.{says-cause}
use Rattle.node_serving.proofs.Heard.{can-anyway, lent-so}
use Rattle.node_serving.proofs.Served.{none-stops, posted-stops, said-stops, served, served-stops}
use Rattle.node_serving.proofs.serving.serve.Goals as goal

pub returns-in_err-reply-clause-stops : goal.returns-in_err-reply-clause-stops
returns-in_err-reply-clause-stops g c = λ version snap most source h n ts has are is number.
    let p = err_from_is_err_and c.from_residual.result c.from_residual.ensures.1 in
    rw (p.1, p.2) (none-stops (cast_of c.args.running.now.kit.now version) snap most n c.args.me c.args.line.now ts
    (link_seen g.L.Link.sent g.L.Link.coming g.L.Link.faults c.args.link.now)
    (sink_seen g.K.Sink.written g.K.Sink.faults c.args.output.now) source h is g.V.Service.heard c.hear.new.service c.args.number
    (stop_of c.in_err-reply.field-0.0) number (c.in_err-reply.ensures.none version n.now h has are))

pub returns-in_err-reply-clause-cause : goal.returns-in_err-reply-clause-cause
returns-in_err-reply-clause-cause g c = λ faults.
    let p = err_from_is_err_and c.from_residual.result c.from_residual.ensures.1 in
    rw (p.1, p.2) (c.in_err-reply.ensures.cause faults)

pub returns-in_err-say-clause-stops : goal.returns-in_err-say-clause-stops
returns-in_err-say-clause-stops g c = λ version snap most source h n ts has are is number.
    let k = cast_of c.args.running.now.kit.now version in
    let reply = c.in_ok-reply.reply in
    let p = err_from_is_err_and c.from_residual-in_err-say.result c.from_residual-in_err-say.ensures.1 in
    rw (p.1, p.2) (said-stops k snap most n c.args.me c.args.line.now ts
    (link_seen g.L.Link.sent g.L.Link.coming g.L.Link.faults c.args.link.now)
    (sink_seen g.K.Sink.written g.K.Sink.faults c.args.output.now) source h is g.V.Service.heard c.hear.new.service
    c.as_slice.result.now (letters_in reply.sends.items)
    (lent-so g.V.Service.heard c.hear.new.service h k c.args.me (n.now c.args.me) c.args.line.now reply.text.items c.as_slice.result.now
    reply.sends.items reply.sends.items c.as_slice.ensures.value refl (c.in_ok-reply.ensures.says version n.now h has are))
    c.in_err-say.field-0.0 (sink_seen g.K.Sink.written g.K.Sink.faults c.say.new.output) c.in_err-say.ensures)

pub returns-in_err-say-clause-cause : goal.returns-in_err-say-clause-cause
returns-in_err-say-clause-cause g c = λ faults.
    let p = err_from_is_err_and c.from_residual-in_err-say.result c.from_residual-in_err-say.ensures.1 in
    rw (p.1, p.2) (says-cause (Err c.in_err-say.field-0.0) c.as_slice.result.now (sink_seen g.K.Sink.written g.K.Sink.faults c.args.output.now)
    (sink_seen g.K.Sink.written g.K.Sink.faults c.say.new.output) faults c.in_err-say.ensures)

pub post-requires-clause-can : goal.post-requires-clause-can
post-requires-clause-can g c = λ version.
    let kit = c.args.running.now.kit.now in
    let some = c.requires.hosts in
    rw c.as_slice-2.ensures.value (can-anyway kit some.version version c.args.me (letters_in c.in_ok-reply.reply.sends.items)
    (c.in_ok-reply.ensures.can some.version some.now some.are))

pub returns-in_err-late-clause-stops : goal.returns-in_err-late-clause-stops
returns-in_err-late-clause-stops g c = λ version snap most source h n ts has are is number.
    let k = cast_of c.args.running.now.kit.now version in
    let reply = c.in_ok-reply.reply in
    let p = err_from_is_err_and c.from_residual-in_err-late.result c.from_residual-in_err-late.ensures.1 in
    rw (p.1, p.2) (posted-stops k snap most n c.args.me c.args.line.now ts
    (link_seen g.L.Link.sent g.L.Link.coming g.L.Link.faults c.args.link.now)
    (sink_seen g.K.Sink.written g.K.Sink.faults c.args.output.now) source h is g.V.Service.heard c.hear.new.service
    c.as_slice.result.now (letters_in c.as_slice-2.result.now)
    (lent-so g.V.Service.heard c.hear.new.service h k c.args.me (n.now c.args.me) c.args.line.now reply.text.items c.as_slice.result.now
    reply.sends.items c.as_slice-2.result.now c.as_slice.ensures.value c.as_slice-2.ensures.value
    (c.in_ok-reply.ensures.says version n.now h has are))
    (sink_seen g.K.Sink.written g.K.Sink.faults c.say.new.output)
    (link_seen g.L.Link.sent g.L.Link.coming g.L.Link.faults c.post.new.link) c.in_ok-say.ensures (c.in_err-late.ensures.begun version n.now []))

pub returns-clause-serves : goal.returns-clause-serves
returns-clause-serves g c = λ version snap most source h n ts has are is.
    let k = cast_of c.args.running.now.kit.now version in
    let reply = c.in_ok-reply.reply in
    served k snap most n c.args.me c.args.line.now ts
    (link_seen g.L.Link.sent g.L.Link.coming g.L.Link.faults c.args.link.now)
    (sink_seen g.K.Sink.written g.K.Sink.faults c.args.output.now) source h is g.V.Service.heard c.hear.new.service
    c.as_slice.result.now (letters_in c.as_slice-2.result.now)
    (lent-so g.V.Service.heard c.hear.new.service h k c.args.me (n.now c.args.me) c.args.line.now reply.text.items c.as_slice.result.now
    reply.sends.items c.as_slice-2.result.now c.as_slice.ensures.value c.as_slice-2.ensures.value
    (c.in_ok-reply.ensures.says version n.now h has are))
    (sink_seen g.K.Sink.written g.K.Sink.faults c.say.new.output) (sink_seen g.K.Sink.written g.K.Sink.faults c.say-2.new.output)
    (link_seen g.L.Link.sent g.L.Link.coming g.L.Link.faults c.post.new.link) c.as_slice-3.result.now c.in_ok-say.ensures
    (rw c.as_slice-3.ensures.value (c.in_ok-late.ensures.out version n.now [])) c.say-2.result c.say-2.ensures

pub returns-clause-stops : goal.returns-clause-stops
returns-clause-stops g c = λ version snap most source h n ts has are is number.
    let k = cast_of c.args.running.now.kit.now version in
    let reply = c.in_ok-reply.reply in
    served-stops k snap most n c.args.me c.args.line.now ts
    (link_seen g.L.Link.sent g.L.Link.coming g.L.Link.faults c.args.link.now)
    (sink_seen g.K.Sink.written g.K.Sink.faults c.args.output.now) source h is g.V.Service.heard c.hear.new.service
    c.as_slice.result.now (letters_in c.as_slice-2.result.now)
    (lent-so g.V.Service.heard c.hear.new.service h k c.args.me (n.now c.args.me) c.args.line.now reply.text.items c.as_slice.result.now
    reply.sends.items c.as_slice-2.result.now c.as_slice.ensures.value c.as_slice-2.ensures.value
    (c.in_ok-reply.ensures.says version n.now h has are))
    (sink_seen g.K.Sink.written g.K.Sink.faults c.say.new.output) (sink_seen g.K.Sink.written g.K.Sink.faults c.say-2.new.output)
    (link_seen g.L.Link.sent g.L.Link.coming g.L.Link.faults c.post.new.link) c.as_slice-3.result.now c.in_ok-say.ensures
    (rw c.as_slice-3.ensures.value (c.in_ok-late.ensures.out version n.now [])) c.say-2.result c.say-2.ensures

pub returns-clause-cause : goal.returns-clause-cause
returns-clause-cause g c = λ faults. says-cause c.say-2.result c.as_slice-3.result.now
    (sink_seen g.K.Sink.written g.K.Sink.faults c.say.new.output) (sink_seen g.K.Sink.written g.K.Sink.faults c.say-2.new.output) faults
    c.say-2.ensures
