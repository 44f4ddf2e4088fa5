use Rattle.safety_laws.proofs.AgreeTested.{agree_is_tested}
use Rattle.safety_laws.proofs.agree_is_tested.Goals as goal

pub returns : goal.returns
returns c = agree_is_tested
