use Rattle.rule_laws.proofs.Least.{first_is_least}
use Rattle.rule_laws.proofs.first_is_least.Goals as goal

pub returns : goal.returns
returns c = first_is_least
