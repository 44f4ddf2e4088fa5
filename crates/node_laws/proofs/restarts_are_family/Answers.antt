use Rattle.node_laws.proofs.Openings.{restarts_are_family}
use Rattle.node_laws.proofs.restarts_are_family.Goals as goal

pub returns : goal.returns
returns c = restarts_are_family
