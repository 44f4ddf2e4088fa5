use Rattle.rule_laws.proofs.Deputies.{suggest_is_least}
use Rattle.rule_laws.proofs.suggest_is_least.Goals as goal

pub returns : goal.returns
returns c = suggest_is_least
