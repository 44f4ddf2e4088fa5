use Rattle.proof_laws.proofs.GoingOn.{lines_go_on}
use Rattle.proof_laws.proofs.lines_go_on.Goals as goal

pub returns : goal.returns
returns c = lines_go_on
