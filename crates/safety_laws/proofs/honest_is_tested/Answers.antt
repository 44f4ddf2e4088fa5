use Rattle.safety_laws.proofs.Tested.{honest_is_tested}
use Rattle.safety_laws.proofs.honest_is_tested.Goals as goal

pub returns : goal.returns
returns c = honest_is_tested
