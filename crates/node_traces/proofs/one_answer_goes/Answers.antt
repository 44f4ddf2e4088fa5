use Rattle.node_traces.proofs.Going.{one_answer_goes as proved}
use Rattle.node_traces.proofs.one_answer_goes.Goals as goal

pub returns : goal.returns
returns c = proved
