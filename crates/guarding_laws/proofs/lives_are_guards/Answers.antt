use Rattle.guarding_laws.proofs.Runs.{lives_are_guards}
use Rattle.guarding_laws.proofs.lives_are_guards.Goals as goal

pub returns : goal.returns
returns c = lives_are_guards
