use Rattle.safety_laws.proofs.DecisionIsCertified.{decision_is_certified}
use Rattle.safety_laws.proofs.decision_is_certified.Goals as goal

pub returns : goal.returns
returns c = decision_is_certified
