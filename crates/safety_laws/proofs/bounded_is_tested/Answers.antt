use Rattle.safety_laws.proofs.Tested.{bounded_is_tested}
use Rattle.safety_laws.proofs.bounded_is_tested.Goals as goal

pub returns : goal.returns
returns c = bounded_is_tested
