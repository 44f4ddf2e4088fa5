use Rattle.node_laws.proofs.Fitting.{lives_on}
use Rattle.node_laws.proofs.lives_on.Goals as goal

pub returns : goal.returns
returns c = lives_on
