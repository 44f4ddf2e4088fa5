use Rattle.rule_laws.proofs.Notifying.{notified_is_found}
use Rattle.rule_laws.proofs.notified_is_found.Goals as goal

pub returns : goal.returns
returns c = notified_is_found
