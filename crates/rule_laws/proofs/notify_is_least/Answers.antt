use Rattle.rule_laws.proofs.Notifying.{notify_is_least}
use Rattle.rule_laws.proofs.notify_is_least.Goals as goal

pub returns : goal.returns
returns c = notify_is_least
