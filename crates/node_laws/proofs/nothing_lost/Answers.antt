use Rattle.node_laws.proofs.Lasting.{nothing_lost}
use Rattle.node_laws.proofs.nothing_lost.Goals as goal

pub returns : goal.returns
returns c = nothing_lost
