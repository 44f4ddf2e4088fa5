use Rattle.node_rows.proofs.Begun.{begun_nodes}
use Rattle.node_rows.proofs.begun_nodes.Goals as goal

pub returns : goal.returns
returns c = begun_nodes
