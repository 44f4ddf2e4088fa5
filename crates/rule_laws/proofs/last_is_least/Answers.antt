use Rattle.rule_laws.proofs.Deputies.{last_is_least}
use Rattle.rule_laws.proofs.last_is_least.Goals as goal

pub returns : goal.returns
returns c = last_is_least
