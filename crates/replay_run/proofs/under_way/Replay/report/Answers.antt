use Rattle.std.proofs.Common.{subst}
use Rattle.std.proofs.Math.Logic.{∥∥₁_elim}
use Rattle.std.proofs.Props.{props}
use Rattle.replay_run.proofs.Ended.{HasRunWhole, ran_whole, no_schedule, stopped_whole, written_whole}
use Rattle.replay_run.proofs.under_way.Replay.report.Goals as goal

pub returns-in-Err-clause-exact : goal.returns-in-Err-clause-exact
returns-in-Err-clause-exact c = λ fed has.
    let r = c.args.self.now in
    no_schedule r.reader r.run fed has c.end.result c.end.ensures.ends c.end.ensures.again c.args.short c.in-Err.fault c.from.result
    c.in-Err.is c.from.ensures

pub unreachable-requires : goal.unreachable-requires
unreachable-requires c =
    let r = c.args.self.now in
    ∥∥₁_elim r.real (hlevel props) (λ some.
    (subst (HasRunWhole some.0) c.in-Waits.is
    (ran_whole r.reader r.run some.0 some.1 c.end.result c.end.ensures.ends c.end.ensures.again c.in_default.field-0
    c.in_default.is)).ran)

pub returns-in_ok-report-in-Runs-clause-exact : goal.returns-in_ok-report-in-Runs-clause-exact
returns-in_ok-report-in-Runs-clause-exact c = λ fed has.
    let r = c.args.self.now in
    let whole = subst (HasRunWhole fed) c.in-Runs.is
    (ran_whole r.reader r.run fed has c.end.result c.end.ensures.ends c.end.ensures.again c.in_default.field-0 c.in_default.is) in
    (written_whole c.args.short fed c.in-Runs.world _ whole
    (c.in_ok-report-in-Runs.ensures whole.schedule.header whole.ran.world whole.ran.shows)).0

pub returns-in_ok-report-in-Runs-clause-report : goal.returns-in_ok-report-in-Runs-clause-report
returns-in_ok-report-in-Runs-clause-report c = λ fed has.
    let r = c.args.self.now in
    let whole = subst (HasRunWhole fed) c.in-Runs.is
    (ran_whole r.reader r.run fed has c.end.result c.end.ensures.ends c.end.ensures.again c.in_default.field-0 c.in_default.is) in
    (written_whole c.args.short fed c.in-Runs.world _ whole
    (c.in_ok-report-in-Runs.ensures whole.schedule.header whole.ran.world whole.ran.shows)).1

pub returns-in-Stops-clause-exact : goal.returns-in-Stops-clause-exact
returns-in-Stops-clause-exact c = λ fed has.
    let r = c.args.self.now in
    stopped_whole c.args.short fed c.in-Stops.fault
    (subst (HasRunWhole fed) c.in-Stops.is
    (ran_whole r.reader r.run fed has c.end.result c.end.ensures.ends c.end.ensures.again c.in_default.field-0 c.in_default.is))
