use Rattle.node_laws.proofs.Openings.{restarts_agree}
use Rattle.node_laws.proofs.restarts_agree.Goals as goal

pub returns : goal.returns
returns c = restarts_agree
