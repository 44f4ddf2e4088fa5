use Rattle.std.proofs.Common.{[], ◌++◌, subst}
use Rattle.std.proofs.lemmas.Result.{err_from_is_err_and}
use Rattle.journal_rp.specs.Stages.{version_of}
use Rattle.node_defs.specs.Lines.{drop_line}
use Rattle.node_defs.specs.Nodes.{after_came}
use Rattle.node_traces.specs.Seen.{link_seen, sink_seen}
use Rattle.node_taking.specs.Hosts.{IsNode}
use Rattle.node_taking.proofs.Expelled.{has-hosts, says-leads, says-to-stop}
use Rattle.node_taking.proofs.Leads.{around}
use Rattle.node_receiving.proofs.taking.take_datagram.Goals as goal

pub open_datagram-requires-clause-hosts : goal.open_datagram-requires-clause-hosts
open_datagram-requires-clause-hosts g c =
    has-hosts (g.D.Disk.seen c.args.disk.now) (g.D.Disk.may_leave c.args.disk.now) c.args.running c.requires.node

pub returns-in-Ok-clause-goes_on : goal.returns-in-Ok-clause-goes_on
returns-in-Ok-clause-goes_on g c = λ snap most f source h n ts has is.
    c.take.ensures.goes_on snap most f source h n ts has
    (subst (λ r. IsNode f (g.D.Disk.seen c.args.disk.now) (g.D.Disk.may_leave c.args.disk.now) c.args.running n (after_came c.args.me r ++ ts))
    (c.in-Ok.ensures.opened (version_of c.args.running.journal)) is)

pub returns-in-Ok-clause-stops : goal.returns-in-Ok-clause-stops
returns-in-Ok-clause-stops g c = λ snap most f source h n ts has is.
    c.take.ensures.stops snap most f source h n ts has
    (subst (λ r. IsNode f (g.D.Disk.seen c.args.disk.now) (g.D.Disk.may_leave c.args.disk.now) c.args.running n (after_came c.args.me r ++ ts))
    (c.in-Ok.ensures.opened (version_of c.args.running.journal)) is)

pub returns-in_err-say_drop-in-Err-clause-stops : goal.returns-in_err-say_drop-in-Err-clause-stops
returns-in_err-say_drop-in-Err-clause-stops g c = λ snap most f source h n ts has is.
    let x = around c.args.disk.now c.args.service.now (link_seen g.L.Link.sent g.L.Link.coming g.L.Link.faults c.args.link.now)
    (sink_seen g.K.Sink.written g.K.Sink.faults c.args.output.now) in
    let t = sink_seen g.K.Sink.written g.K.Sink.faults c.say_drop.new.output in
    let p = err_from_is_err_and c.from_residual.result c.from_residual.ensures.1 in
    rw (p.1, p.2) (says-to-stop g.D.Disk.seen g.D.Disk.may_leave g.D.Disk.moment g.D.Disk.left_since g.V.Service.heard
    (λ d image left. g.D.Disk.only_now d image left) (Unit {0}) c.in_err-say_drop-in-Err.field-0.0 c.args.running x
    (drop_line c.args.me c.in-Err.fault) [] t c.in_err-say_drop-in-Err.ensures snap most f source h n ts has
    (subst (λ r. IsNode f (g.D.Disk.seen c.args.disk.now) (g.D.Disk.may_leave c.args.disk.now) c.args.running n (after_came c.args.me r ++ ts))
    (c.in-Err.ensures.opened (version_of c.args.running.journal)) is))

pub returns-in_ok-say_drop-in-Err-clause-goes_on : goal.returns-in_ok-say_drop-in-Err-clause-goes_on
returns-in_ok-say_drop-in-Err-clause-goes_on g c = λ snap most f source h n ts has is.
    let x = around c.args.disk.now c.args.service.now (link_seen g.L.Link.sent g.L.Link.coming g.L.Link.faults c.args.link.now)
    (sink_seen g.K.Sink.written g.K.Sink.faults c.args.output.now) in
    let t = sink_seen g.K.Sink.written g.K.Sink.faults c.say_drop.new.output in
    says-leads g.D.Disk.seen g.D.Disk.may_leave g.D.Disk.moment g.D.Disk.left_since g.V.Service.heard
    (λ d image left. g.D.Disk.only_now d image left) c.args.running x (drop_line c.args.me c.in-Err.fault) [] t
    c.in_ok-say_drop-in-Err.ensures snap most f source h n ts has
    (subst (λ r. IsNode f (g.D.Disk.seen c.args.disk.now) (g.D.Disk.may_leave c.args.disk.now) c.args.running n (after_came c.args.me r ++ ts))
    (c.in-Err.ensures.opened (version_of c.args.running.journal)) is)
