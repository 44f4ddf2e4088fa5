use Rattle.rule_laws.proofs.LeastIsDue.{some_is_least}
use Rattle.rule_laws.proofs.some_is_least.Goals as goal

pub returns : goal.returns
returns c = some_is_least
