use Rattle.std.proofs.Common.{[], Option, sym, subst}
use Rattle.replay_defs.specs.Schedules.{Header}
use Rattle.replay_run.specs.declared.run.Run.TheVariants.{Runs}
use Rattle.replay_run.specs.Running.{HasRun}
use Rattle.replay_run.proofs.Stepping.{first_world}
use Rattle.replay_run.proofs.run.first.Goals as goal

pub returns-in_ok-new-in-Some : goal.returns-in_ok-new-in-Some
returns-in_ok-new-in-Some c =
    let w = c.in_ok-new-in-Some.field-0 in
    subst (λ (o : Option Header). HasRun o [] (Runs w)) (sym c.in-Some.ensures)
    (first_world _ w c.in_ok-new-in-Some.ensures.shows c.in_ok-new-in-Some.ensures.count)
