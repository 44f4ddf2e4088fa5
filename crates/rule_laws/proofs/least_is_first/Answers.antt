use Rattle.rule_laws.proofs.Once.{least_is_first}
use Rattle.rule_laws.proofs.least_is_first.Goals as goal

pub returns : goal.returns
returns c = least_is_first
