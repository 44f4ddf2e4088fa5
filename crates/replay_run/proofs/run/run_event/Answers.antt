use Rattle.std.proofs.Common.{sym, subst}
use Rattle.std.proofs.lemmas.Result.{IfOk-weaker}
use Rattle.schedule_file.specs.Views.{event}
use Rattle.replay_run.specs.declared.run.Run.{Run}
use Rattle.replay_run.specs.declared.run.Run.TheVariants.{Runs, Stops}
use Rattle.replay_run.specs.Running.{RunsOn, IsStoppedBy}
use Rattle.replay_run.proofs.Stepping.{happened, stopped_at, stays}
use Rattle.replay_run.proofs.run.run_event.Goals as goal

pub returns-in-Ok : goal.returns-in-Ok
returns-in-Ok c =
    let e = event c.args.event.now in
    subst (λ (r : Run). RunsOn e r (Runs c.event.new.self)) (sym c.in-Runs.is)
    (happened c.in-Runs.world c.event.new.self e c.in-Ok.ensures.happens c.in-Ok.ensures.count)

pub returns-in-Err : goal.returns-in-Err
returns-in-Err c =
    let e = event c.args.event.now in
    IfOk-weaker c.stopped.result (IsStoppedBy c.in-Err.fault) (RunsOn e c.args.run) (λ now by.
    subst (λ (r : Run). RunsOn e r now) (sym c.in-Runs.is)
    (stopped_at c.in-Runs.world e c.in-Err.fault now c.in-Err.ensures.stops by)) c.stopped.ensures

pub returns-in-Stops : goal.returns-in-Stops
returns-in-Stops c =
    let e = event c.args.event.now in
    subst (λ (r : Run). RunsOn e r (Stops c.in-Stops.fault)) (sym c.in-Stops.is) (stays c.in-Stops.fault e)
