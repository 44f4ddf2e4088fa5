use Rattle.node_laws.proofs.Fitting.{leaves_fit}
use Rattle.node_laws.proofs.leaves_fit.Goals as goal

pub returns : goal.returns
returns c = leaves_fit
