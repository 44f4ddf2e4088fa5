use Rattle.node_traces.proofs.Going.{parts_go_on as proved}
use Rattle.node_traces.proofs.parts_go_on.Goals as goal

pub returns : goal.returns
returns c = proved
