use Rattle.std.proofs.Common.{[], subst}
use Rattle.node_defs.specs.Nodes.{tasks_of_line}
use Rattle.node_traces.specs.Seen.{link_seen}
use Rattle.node_input.specs.Texts.{Line, line as line_of}
use Rattle.node_input.specs.Reads.{IsFor}
use Rattle.node_snapping.specs.Hosts.{IsNode, cast_in, numbers_of}
use Rattle.node_snapping.specs.Snapping.{snapper}
use Rattle.node_script.proofs.Asked.{unheard-err, unheard-ok}
use Rattle.node_script.proofs.carrying.carry_out.Goals as goal

pub ask-requires-clause-hosted : goal.ask-requires-clause-hosted
ask-requires-clause-hosted g c =
    (subst (λ (l : Line). IsFor (numbers_of c.args.running.hosts) c.args.line.now (line_of l)) c.in-Of.is c.requires.asks).0

pub ask-requires-clause-range : goal.ask-requires-clause-range
ask-requires-clause-range g c =
    (subst (λ (l : Line). IsFor (numbers_of c.args.running.hosts) c.args.line.now (line_of l)) c.in-Of.is c.requires.asks).1

pub returns-in-Of-clause-goes_on : goal.returns-in-Of-clause-goes_on
returns-in-Of-clause-goes_on g c = λ reported most f source h n some has is number.
    c.ask.ensures.goes_on (snapper f.head f.begins reported (cast_in c.args.running)) most f source h n has
    (subst (λ (l : Line). IsNode f (g.D.Disk.seen c.args.disk.now) (g.D.Disk.may_leave c.args.disk.now) c.args.running n
    (tasks_of_line c.args.line.now (line_of l))) c.in-Of.is is) number

pub returns-in-Of-clause-stops : goal.returns-in-Of-clause-stops
returns-in-Of-clause-stops g c = λ reported most f source h n some has is number.
    c.ask.ensures.stops (snapper f.head f.begins reported (cast_in c.args.running)) most f source h n has
    (subst (λ (l : Line). IsNode f (g.D.Disk.seen c.args.disk.now) (g.D.Disk.may_leave c.args.disk.now) c.args.running n
    (tasks_of_line c.args.line.now (line_of l))) c.in-Of.is is) number

pub returns-in-Snap-clause-goes_on : goal.returns-in-Snap-clause-goes_on
returns-in-Snap-clause-goes_on g c = λ reported most f source h n some has is number.
    unheard-ok g.V.Service.heard c.args.service.now h has c.snap.result _ (c.snap.ensures.goes_on reported most f
    (link_seen g.L.Link.sent g.L.Link.coming g.L.Link.faults c.args.link.now) source h n [] some
    (subst (λ (l : Line). IsNode f (g.D.Disk.seen c.args.disk.now) (g.D.Disk.may_leave c.args.disk.now) c.args.running n
    (tasks_of_line c.args.line.now (line_of l))) c.in-Snap.is is))

pub returns-in-Snap-clause-stops : goal.returns-in-Snap-clause-stops
returns-in-Snap-clause-stops g c = λ reported most f source h n some has is number.
    unheard-err g.V.Service.heard c.args.service.now h has c.snap.result _ (c.snap.ensures.stops reported most f
    (link_seen g.L.Link.sent g.L.Link.coming g.L.Link.faults c.args.link.now) source h n [] some
    (subst (λ (l : Line). IsNode f (g.D.Disk.seen c.args.disk.now) (g.D.Disk.may_leave c.args.disk.now) c.args.running n
    (tasks_of_line c.args.line.now (line_of l))) c.in-Snap.is is))
