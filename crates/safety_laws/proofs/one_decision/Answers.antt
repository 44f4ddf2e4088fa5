use Rattle.safety_laws.proofs.Decisions.{one_decision}
use Rattle.safety_laws.proofs.one_decision.Goals as goal

pub returns : goal.returns
returns c = one_decision
