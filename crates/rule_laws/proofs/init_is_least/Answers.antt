use Rattle.rule_laws.proofs.Echoing.{init_is_least}
use Rattle.rule_laws.proofs.init_is_least.Goals as goal

pub returns : goal.returns
returns c = init_is_least
