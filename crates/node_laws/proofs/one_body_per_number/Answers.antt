use Rattle.node_laws.proofs.Openings.{one_body_per_number}
use Rattle.node_laws.proofs.one_body_per_number.Goals as goal

pub returns : goal.returns
returns c = one_body_per_number
