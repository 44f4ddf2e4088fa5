use Rattle.node_laws.proofs.Soundness.{kept_grows}
use Rattle.node_laws.proofs.kept_grows.Goals as goal

pub returns : goal.returns
returns c = kept_grows
