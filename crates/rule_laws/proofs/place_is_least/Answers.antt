use Rattle.rule_laws.proofs.Placing.{place_is_least}
use Rattle.rule_laws.proofs.place_is_least.Goals as goal

pub returns : goal.returns
returns c = place_is_least
