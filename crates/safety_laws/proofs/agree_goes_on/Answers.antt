use Rattle.safety_laws.proofs.AllAgree.{agree_goes_on}
use Rattle.safety_laws.proofs.agree_goes_on.Goals as goal

pub returns : goal.returns
returns c = agree_goes_on
