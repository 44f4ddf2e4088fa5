use Rattle.guarding_laws.proofs.Runs.{nodes_are_guards}
use Rattle.guarding_laws.proofs.nodes_are_guards.Goals as goal

pub returns : goal.returns
returns c = nodes_are_guards
