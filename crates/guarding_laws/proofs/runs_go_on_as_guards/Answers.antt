use Rattle.guarding_laws.proofs.Runs.{runs_go_on_as_guards}
use Rattle.guarding_laws.proofs.runs_go_on_as_guards.Goals as goal

pub returns : goal.returns
returns c = runs_go_on_as_guards
