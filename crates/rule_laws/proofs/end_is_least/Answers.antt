use Rattle.rule_laws.proofs.Notifying.{end_is_least}
use Rattle.rule_laws.proofs.end_is_least.Goals as goal

pub returns : goal.returns
returns c = end_is_least
