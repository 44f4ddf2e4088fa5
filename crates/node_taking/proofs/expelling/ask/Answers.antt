use Rattle.std.proofs.Common.{[], ◌++◌, map, subst}
use Rattle.node_traces.specs.Seen.{link_seen, sink_seen}
use Rattle.sealing_laws.specs.Running.{IsNode}
use Rattle.sealing_laws.specs.Service.{note as note_of}
use Rattle.node_taking.proofs.Expelled.{asked-of-frame, asked-of-none}
use Rattle.node_taking.proofs.Leads.{around, leads-nowhere}
use Rattle.node_taking.proofs.expelling.ask.Goals as goal

pub returns-in-Frame-clause-goes_on : goal.returns-in-Frame-clause-goes_on
returns-in-Frame-clause-goes_on g c = λ snap most f source h n ts has is.
    c.expel_each.ensures.goes_on snap most f source h n ts has
    (subst (λ us. IsNode f (g.D.Disk.seen c.args.disk.now) (g.D.Disk.may_leave c.args.disk.now) c.args.running n (us ++ ts))
    (asked-of-frame c.args.me c.args.event.now (map note_of c.args.notes.now) _ _ c.in-Frame.is) is)

pub returns-in-Frame-clause-stops : goal.returns-in-Frame-clause-stops
returns-in-Frame-clause-stops g c = λ snap most f source h n ts has is.
    c.expel_each.ensures.stops snap most f source h n ts has
    (subst (λ us. IsNode f (g.D.Disk.seen c.args.disk.now) (g.D.Disk.may_leave c.args.disk.now) c.args.running n (us ++ ts))
    (asked-of-frame c.args.me c.args.event.now (map note_of c.args.notes.now) _ _ c.in-Frame.is) is)

pub returns-in_default-clause-goes_on : goal.returns-in_default-clause-goes_on
returns-in_default-clause-goes_on g c = λ snap most f source h n ts has is.
    let x = around c.args.disk.now c.args.service.now (link_seen g.L.Link.sent g.L.Link.coming g.L.Link.faults c.args.link.now)
    (sink_seen g.K.Sink.written g.K.Sink.faults c.args.output.now) in
    leads-nowhere g.D.Disk.seen g.D.Disk.may_leave g.D.Disk.moment g.D.Disk.left_since g.V.Service.heard
    (λ d image left. g.D.Disk.only_now d image left) c.args.running x [] snap most f source h n ts has
    (subst (λ us. IsNode f (g.D.Disk.seen c.args.disk.now) (g.D.Disk.may_leave c.args.disk.now) c.args.running n (us ++ ts))
    (asked-of-none c.args.me c.args.event.now (map note_of c.args.notes.now) c.in_default.not-Frame) is)
