use Rattle.std.proofs.Common.{[], List, subst}
use Rattle.std.proofs.lemmas.Result.{err_from_is_err_and}
use Rattle.journal_rp.specs.Stages.{version_of}
use Rattle.node_defs.specs.Nodes.{Task}
use Rattle.node_traces.specs.Seen.{link_seen, sink_seen}
use Rattle.node_snapping.specs.Hosts.{IsNode}
use Rattle.node_snapping.specs.Stops.{stop as stop_of}
use Rattle.node_snapping.proofs.Handed.{has-hosts}
use Rattle.node_script.proofs.Asked.{asks-service, hands, is-text, other-so, receives}
use Rattle.node_script.proofs.Carried.{served-on, served-to-stop}
use Rattle.node_script.proofs.carrying.ask.Goals as goal

pub take-requires-clause-other : goal.take-requires-clause-other
take-requires-clause-other g c = other-so c.args.me c.in-Hand.event _ c.event.ensures

pub returns-in-Hand-clause-goes_on : goal.returns-in-Hand-clause-goes_on
returns-in-Hand-clause-goes_on g c = λ snap most f source h n has is number.
    c.take.ensures.goes_on snap most f source h n [] has
    (subst (λ (ts : List Task). IsNode f (g.D.Disk.seen c.args.disk.now) (g.D.Disk.may_leave c.args.disk.now) c.args.running n ts)
    (hands c.args.me c.args.line.now c.args.said c.in-Hand.event _ c.in-Hand.is c.event.ensures) is)

pub returns-in-Hand-clause-stops : goal.returns-in-Hand-clause-stops
returns-in-Hand-clause-stops g c = λ snap most f source h n has is number.
    c.take.ensures.stops snap most f source h n [] has
    (subst (λ (ts : List Task). IsNode f (g.D.Disk.seen c.args.disk.now) (g.D.Disk.may_leave c.args.disk.now) c.args.running n ts)
    (hands c.args.me c.args.line.now c.args.said c.in-Hand.event _ c.in-Hand.is c.event.ensures) is)

pub returns-in-Receive-clause-goes_on : goal.returns-in-Receive-clause-goes_on
returns-in-Receive-clause-goes_on g c = λ snap most f source h n has is number.
    c.receive.ensures.goes_on snap most f source h n [] has
    (subst (λ (ts : List Task). IsNode f (g.D.Disk.seen c.args.disk.now) (g.D.Disk.may_leave c.args.disk.now) c.args.running n ts)
    (receives c.args.me c.in-Receive.most c.args.line.now c.args.said c.in-Receive.is) is)

pub returns-in-Receive-clause-stops : goal.returns-in-Receive-clause-stops
returns-in-Receive-clause-stops g c = λ snap most f source h n has is number.
    c.receive.ensures.stops snap most f source h n [] has
    (subst (λ (ts : List Task). IsNode f (g.D.Disk.seen c.args.disk.now) (g.D.Disk.may_leave c.args.disk.now) c.args.running n ts)
    (receives c.args.me c.in-Receive.most c.args.line.now c.args.said c.in-Receive.is) is)

pub serve-requires-clause-hosts : goal.serve-requires-clause-hosts
serve-requires-clause-hosts g c =
    has-hosts (g.D.Disk.seen c.args.disk.now) (g.D.Disk.may_leave c.args.disk.now) c.args.running c.requires.node

pub serve-requires-clause-text : goal.serve-requires-clause-text
serve-requires-clause-text g c = is-text c.args.line.now c.args.said c.in-Other.is c.requires.range

pub returns-in_ok-serve-in-Other-clause-goes_on : goal.returns-in_ok-serve-in-Other-clause-goes_on
returns-in_ok-serve-in-Other-clause-goes_on g c = λ snap most f source h n has is number.
    let here = subst (λ (ts : List Task). IsNode f (g.D.Disk.seen c.args.disk.now) (g.D.Disk.may_leave c.args.disk.now) c.args.running n ts)
    (asks-service c.args.me c.args.line.now c.args.said c.in-Other.is) is in
    served-on g.D.Disk.seen g.D.Disk.may_leave g.D.Disk.moment g.D.Disk.left_since (λ d image left. g.D.Disk.only_now d image left) snap most f
    c.args.running g.V.Service.heard c.serve.new.service n
    (link_seen g.L.Link.sent g.L.Link.coming g.L.Link.faults c.args.link.now)
    (link_seen g.L.Link.sent g.L.Link.coming g.L.Link.faults c.serve.new.link)
    (sink_seen g.K.Sink.written g.K.Sink.faults c.args.output.now) (sink_seen g.K.Sink.written g.K.Sink.faults c.serve.new.output) source h
    c.args.disk.now _ here
    (c.in_ok-serve-in-Other.ensures.serves (version_of c.args.running.journal) snap most source h n [] has here.hosts here.at)

pub returns-in_err-serve-in-Other-clause-stops : goal.returns-in_err-serve-in-Other-clause-stops
returns-in_err-serve-in-Other-clause-stops g c = λ snap most f source h n has is number.
    let here = subst (λ (ts : List Task). IsNode f (g.D.Disk.seen c.args.disk.now) (g.D.Disk.may_leave c.args.disk.now) c.args.running n ts)
    (asks-service c.args.me c.args.line.now c.args.said c.in-Other.is) is in
    let p = err_from_is_err_and c.from_residual.result c.from_residual.ensures.1 in
    rw (p.1, p.2) (served-to-stop g.D.Disk.seen g.D.Disk.may_leave g.D.Disk.moment g.D.Disk.left_since
    (λ d image left. g.D.Disk.only_now d image left) snap most f c.args.running g.V.Service.heard c.serve.new.service n
    (link_seen g.L.Link.sent g.L.Link.coming g.L.Link.faults c.args.link.now)
    (link_seen g.L.Link.sent g.L.Link.coming g.L.Link.faults c.serve.new.link)
    (sink_seen g.K.Sink.written g.K.Sink.faults c.args.output.now) (sink_seen g.K.Sink.written g.K.Sink.faults c.serve.new.output) source h
    c.args.disk.now _ here (stop_of c.in_err-serve-in-Other.field-0.0)
    (c.in_err-serve-in-Other.ensures.stops (version_of c.args.running.journal) snap most source h n [] has here.hosts here.at number))

pub returns-in_err-serve-in-Other-clause-cause : goal.returns-in_err-serve-in-Other-clause-cause
returns-in_err-serve-in-Other-clause-cause g c =
    let p = err_from_is_err_and c.from_residual.result c.from_residual.ensures.1 in
    rw (p.1, p.2) (c.in_err-serve-in-Other.ensures.cause (g.D.Disk.faults c.args.disk.now))
