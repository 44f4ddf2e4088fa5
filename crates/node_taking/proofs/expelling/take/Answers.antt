use Rattle.std.proofs.Common.{ℕ, [], ◌∷◌, subst}
use Rattle.std.proofs.lemmas.Result.{err_from_is_err_and}
use Rattle.node_defs.specs.Nodes.{Take}
use Rattle.node_traces.specs.Seen.{link_seen, sink_seen}
use Rattle.sealing_laws.specs.Events.{event as event_of}
use Rattle.node_taking.specs.Asking.{left_to_ask}
use Rattle.node_taking.specs.Taking.{HasDiskCause}
use Rattle.node_taking.proofs.Expelled.{goes-on-asked, refused-alone, stops-asked}
use Rattle.node_taking.proofs.Leads.{around, hosted-led, node-led}
use Rattle.node_taking.proofs.expelling.take.Goals as goal

pub ask-requires-clause-node : goal.ask-requires-clause-node
ask-requires-clause-node g c =
    let seen = g.D.Disk.seen in
    let may_leave = g.D.Disk.may_leave in
    let moment = g.D.Disk.moment in
    let since = g.D.Disk.left_since in
    let heard = g.V.Service.heard in
    let p = c.args.me in
    let x = around c.args.disk.now c.args.service.now (link_seen g.L.Link.sent g.L.Link.coming g.L.Link.faults c.args.link.now)
    (sink_seen g.K.Sink.written g.K.Sink.faults c.args.output.now) in
    let y = around c.take_turn.new.disk c.take_turn.new.service (link_seen g.L.Link.sent g.L.Link.coming g.L.Link.faults c.take_turn.new.link)
    (sink_seen g.K.Sink.written g.K.Sink.faults c.take_turn.new.output) in
    let e = event_of c.args.event.now in
    let takes = c.in_ok-running.ensures.goes_on in
    node-led seen may_leave moment since heard c.args.running c.in_ok-running.field-0.running x y (Take p e ∷ []) (left_to_ask p e c.in_ok-running.field-0.outcome)
    (λ snap most f source h n ts has is. takes snap most f source h n ts has is) (g.V.Service.begun c.args.service.now) c.requires.node

pub ask-requires-clause-hosted : goal.ask-requires-clause-hosted
ask-requires-clause-hosted g c =
    let seen = g.D.Disk.seen in
    let may_leave = g.D.Disk.may_leave in
    let moment = g.D.Disk.moment in
    let since = g.D.Disk.left_since in
    let heard = g.V.Service.heard in
    let p = c.args.me in
    let x = around c.args.disk.now c.args.service.now (link_seen g.L.Link.sent g.L.Link.coming g.L.Link.faults c.args.link.now)
    (sink_seen g.K.Sink.written g.K.Sink.faults c.args.output.now) in
    let y = around c.take_turn.new.disk c.take_turn.new.service (link_seen g.L.Link.sent g.L.Link.coming g.L.Link.faults c.take_turn.new.link)
    (sink_seen g.K.Sink.written g.K.Sink.faults c.take_turn.new.output) in
    let e = event_of c.args.event.now in
    let takes = c.in_ok-running.ensures.goes_on in
    hosted-led seen may_leave moment since heard c.args.running c.in_ok-running.field-0.running x y (Take p e ∷ [])
    (left_to_ask p e c.in_ok-running.field-0.outcome) p (λ snap most f source h n ts has is. takes snap most f source h n ts has is)
    (g.V.Service.begun c.args.service.now) c.requires.node c.requires.hosted

pub returns-in_err-running-clause-stops : goal.returns-in_err-running-clause-stops
returns-in_err-running-clause-stops g c = λ snap most f source h n ts has is.
    let from = err_from_is_err_and c.from_residual.result c.from_residual.ensures.1 in
    rw (from.1, from.2) (c.in_err-running.ensures.stops snap most f source h n ts has is)

pub returns-in-Some-clause-goes_on : goal.returns-in-Some-clause-goes_on
returns-in-Some-clause-goes_on g c =
    let seen = g.D.Disk.seen in
    let may_leave = g.D.Disk.may_leave in
    let moment = g.D.Disk.moment in
    let since = g.D.Disk.left_since in
    let heard = g.V.Service.heard in
    let p = c.args.me in
    let x = around c.args.disk.now c.args.service.now (link_seen g.L.Link.sent g.L.Link.coming g.L.Link.faults c.args.link.now)
    (sink_seen g.K.Sink.written g.K.Sink.faults c.args.output.now) in
    let y = around c.take_turn.new.disk c.take_turn.new.service (link_seen g.L.Link.sent g.L.Link.coming g.L.Link.faults c.take_turn.new.link)
    (sink_seen g.K.Sink.written g.K.Sink.faults c.take_turn.new.output) in
    let z = around c.ask.new.disk c.ask.new.service (link_seen g.L.Link.sent g.L.Link.coming g.L.Link.faults c.ask.new.link)
    (sink_seen g.K.Sink.written g.K.Sink.faults c.ask.new.output) in
    let e = event_of c.args.event.now in
    let takes = c.in_ok-running.ensures.goes_on in
    goes-on-asked seen may_leave moment since heard (λ d image left. g.D.Disk.only_now d image left) c.args.running c.in_ok-running.field-0.running x y p e
    c.in_ok-running.field-0.outcome (λ snap most f source h n ts has is. takes snap most f source h n ts has is)
    c.in-Some.outcome c.as_slice.result.now c.in-Some.is c.as_slice.ensures.value c.ask.result z
    (λ snap most f source h n ts has is. c.ask.ensures.goes_on snap most f source h n ts has is)

pub returns-in-Some-clause-stops : goal.returns-in-Some-clause-stops
returns-in-Some-clause-stops g c =
    let seen = g.D.Disk.seen in
    let may_leave = g.D.Disk.may_leave in
    let moment = g.D.Disk.moment in
    let since = g.D.Disk.left_since in
    let heard = g.V.Service.heard in
    let p = c.args.me in
    let x = around c.args.disk.now c.args.service.now (link_seen g.L.Link.sent g.L.Link.coming g.L.Link.faults c.args.link.now)
    (sink_seen g.K.Sink.written g.K.Sink.faults c.args.output.now) in
    let y = around c.take_turn.new.disk c.take_turn.new.service (link_seen g.L.Link.sent g.L.Link.coming g.L.Link.faults c.take_turn.new.link)
    (sink_seen g.K.Sink.written g.K.Sink.faults c.take_turn.new.output) in
    let z = around c.ask.new.disk c.ask.new.service (link_seen g.L.Link.sent g.L.Link.coming g.L.Link.faults c.ask.new.link)
    (sink_seen g.K.Sink.written g.K.Sink.faults c.ask.new.output) in
    let e = event_of c.args.event.now in
    let takes = c.in_ok-running.ensures.goes_on in
    stops-asked seen may_leave moment since heard (λ d image left. g.D.Disk.only_now d image left) c.args.running c.in_ok-running.field-0.running x y p e
    c.in_ok-running.field-0.outcome (λ snap most f source h n ts has is. takes snap most f source h n ts has is)
    c.in-Some.outcome c.as_slice.result.now c.in-Some.is c.as_slice.ensures.value c.ask.result z
    (λ snap most f source h n ts has is. c.ask.ensures.stops snap most f source h n ts has is)

pub returns-in-Some-clause-cause : goal.returns-in-Some-clause-cause
returns-in-Some-clause-cause g c = subst (λ (before : ℕ). HasDiskCause before (g.D.Disk.faults c.ask.new.disk) c.ask.result)
    c.in_ok-running.ensures.cause c.ask.ensures.cause

pub returns-in-None-clause-goes_on : goal.returns-in-None-clause-goes_on
returns-in-None-clause-goes_on g c =
    let seen = g.D.Disk.seen in
    let may_leave = g.D.Disk.may_leave in
    let moment = g.D.Disk.moment in
    let since = g.D.Disk.left_since in
    let heard = g.V.Service.heard in
    let p = c.args.me in
    let x = around c.args.disk.now c.args.service.now (link_seen g.L.Link.sent g.L.Link.coming g.L.Link.faults c.args.link.now)
    (sink_seen g.K.Sink.written g.K.Sink.faults c.args.output.now) in
    let y = around c.take_turn.new.disk c.take_turn.new.service (link_seen g.L.Link.sent g.L.Link.coming g.L.Link.faults c.take_turn.new.link)
    (sink_seen g.K.Sink.written g.K.Sink.faults c.take_turn.new.output) in
    let e = event_of c.args.event.now in
    let takes = c.in_ok-running.ensures.goes_on in
    refused-alone seen may_leave moment since heard (λ d image left. g.D.Disk.only_now d image left) c.args.running c.in_ok-running.field-0.running x y p e
    c.in_ok-running.field-0.outcome (λ snap most f source h n ts has is. takes snap most f source h n ts has is) c.in-None.is
