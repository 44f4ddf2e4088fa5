use Rattle.std.proofs.Common.{subst, sym}
use Rattle.replay_defs.specs.Schedules.{Schedule, IsSchedule}
use Rattle.schedule_making.proofs.Fits.{generated_fits}
use Rattle.schedule_making.proofs.making.generate.Goals as goal

pub returns-clause-fits : goal.returns-clause-fits
returns-clause-fits c = subst (λ (s : Schedule). IsSchedule s) (sym c.in_ok-made.ensures) (generated_fits c.args.number)
