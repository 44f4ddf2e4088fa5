use Rattle.safety_laws.proofs.AllAgree.{agreement}
use Rattle.safety_laws.proofs.agreement.Goals as goal

pub returns : goal.returns
returns c = agreement
