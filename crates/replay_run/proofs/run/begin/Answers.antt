use Rattle.std.proofs.Common.{refl, sym, subst}
use Rattle.std.specs.Prelude.{IfOk}
use Rattle.replay_run.specs.declared.run.Run.{Run}
use Rattle.replay_run.specs.declared.run.Run.TheVariants.{Runs, Stops}
use Rattle.replay_run.specs.Running.{Begins}
use Rattle.replay_run.proofs.run.begin.Goals as goal

pub returns-in-Waits : goal.returns-in-Waits
returns-in-Waits c = subst (λ (r : Run). IfOk c.first.result (Begins c.args.reader.now.header r)) (sym c.in-Waits.is) c.first.ensures

pub returns-in-Runs : goal.returns-in-Runs
returns-in-Runs c = subst (λ (r : Run). Begins c.args.reader.now.header r (Runs c.in-Runs.world)) (sym c.in-Runs.is) refl

pub returns-in-Stops : goal.returns-in-Stops
returns-in-Stops c = subst (λ (r : Run). Begins c.args.reader.now.header r (Stops c.in-Stops.fault)) (sym c.in-Stops.is) refl
