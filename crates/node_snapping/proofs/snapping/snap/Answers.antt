use Rattle.std.proofs.Common.{◌∷◌, ℕ, Err, refl, subst, ◌∙◌}
use Rattle.std.proofs.lemmas.Result.{err_from_is_err_and}
use Rattle.node_defs.specs.Nodes.{Mark}
use Rattle.node_traces.specs.Seen.{sink_seen}
use Rattle.node_serving.specs.Hosts.{cast_in}
use Rattle.node_serving.specs.Stops.{StopsByDisk, stop as stop_of}
use Rattle.node_serving.specs.Taking.{at}
use Rattle.node_serving.proofs.Handed.{says-cause}
use Rattle.node_snapping.specs.Snapping.{snapper}
use Rattle.node_snapping.proofs.Written.{no-line, not-written, written}
use Rattle.node_snapping.proofs.snapping.snap.Goals as goal

pub returns-in_err-line-clause-stops : goal.returns-in_err-line-clause-stops
returns-in_err-line-clause-stops g c = λ reported most f link source h n ts some is.
    let p = err_from_is_err_and c.from_residual.result c.from_residual.ensures.1 in
    rw (p.1, p.2) (no-line g.D.Disk.seen g.D.Disk.may_leave g.D.Disk.moment g.D.Disk.left_since c.args.disk.now c.line_of.new.disk
    c.line_of.ensures.disk (snapper f.head f.begins reported (cast_in c.args.running)) most f c.args.running n ts link
    (sink_seen g.K.Sink.written g.K.Sink.faults c.args.output.now) source h is (stop_of c.in_err-line.field-0.0) c.in_err-line.ensures.none)

pub returns-in_err-line-clause-cause : goal.returns-in_err-line-clause-cause
returns-in_err-line-clause-cause g c =
    let p = err_from_is_err_and c.from_residual.result c.from_residual.ensures.1 in
    rw (p.1, p.2) c.in_err-line.ensures.cause

pub returns-in_err-say-clause-stops : goal.returns-in_err-say-clause-stops
returns-in_err-say-clause-stops g c = λ reported most f link source h n ts some is.
    let made = c.in_ok-line.ensures.line f (at n (Mark ∷ ts)) reported is.hosts (record { each = is.counts.each; few = is.counts.few })
    (record { gate = is.journal.gate; length = is.journal.length; rest = is.journal.rest }) some in
    let p = err_from_is_err_and c.from_residual-in_err-say.result c.from_residual-in_err-say.ensures.1 in
    rw (p.1, p.2) (not-written g.D.Disk.seen g.D.Disk.may_leave g.D.Disk.moment g.D.Disk.left_since c.args.disk.now c.line_of.new.disk
    c.line_of.ensures.disk (snapper f.head f.begins reported (cast_in c.args.running)) most f c.args.running n ts link
    (sink_seen g.K.Sink.written g.K.Sink.faults c.args.output.now) source h is c.as_slice.result.now
    (made.0, c.as_slice.ensures.value ∙ made.1) (Unit {0}) c.in_err-say.field-0.0
    (sink_seen g.K.Sink.written g.K.Sink.faults c.say.new.output) c.in_err-say.ensures)

pub returns-in_err-say-clause-cause : goal.returns-in_err-say-clause-cause
returns-in_err-say-clause-cause g c =
    let p = err_from_is_err_and c.from_residual-in_err-say.result c.from_residual-in_err-say.ensures.1 in
    rw (p.1, p.2) (subst (λ (before : ℕ). StopsByDisk before (g.D.Disk.faults c.line_of.new.disk) (stop_of c.in_err-say.field-0.0))
    c.in_ok-line.ensures.cause (says-cause (Err c.in_err-say.field-0.0) c.as_slice.result.now
    (sink_seen g.K.Sink.written g.K.Sink.faults c.args.output.now) (sink_seen g.K.Sink.written g.K.Sink.faults c.say.new.output)
    (g.D.Disk.faults c.line_of.new.disk) c.in_err-say.ensures))

pub returns-clause-goes_on : goal.returns-clause-goes_on
returns-clause-goes_on g c = λ reported most f link source h n ts some is.
    let made = c.in_ok-line.ensures.line f (at n (Mark ∷ ts)) reported is.hosts (record { each = is.counts.each; few = is.counts.few })
    (record { gate = is.journal.gate; length = is.journal.length; rest = is.journal.rest }) some in
    written g.D.Disk.seen g.D.Disk.may_leave g.D.Disk.moment g.D.Disk.left_since c.args.disk.now c.line_of.new.disk
    c.line_of.ensures.disk (snapper f.head f.begins reported (cast_in c.args.running)) most f c.args.running n ts link
    (sink_seen g.K.Sink.written g.K.Sink.faults c.args.output.now) source h is c.as_slice.result.now
    (made.0, c.as_slice.ensures.value ∙ made.1) _ (sink_seen g.K.Sink.written g.K.Sink.faults c.say.new.output)
    c.line_of.ensures.same refl refl refl c.line_of.ensures.as_left c.in_ok-say.ensures
