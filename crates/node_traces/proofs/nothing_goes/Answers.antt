use Rattle.node_traces.proofs.Going.{nothing_goes as proved}
use Rattle.node_traces.proofs.nothing_goes.Goals as goal

pub returns : goal.returns
returns c = proved
