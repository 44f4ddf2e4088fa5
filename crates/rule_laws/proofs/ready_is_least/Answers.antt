use Rattle.rule_laws.proofs.Deputies.{ready_is_least}
use Rattle.rule_laws.proofs.ready_is_least.Goals as goal

pub returns : goal.returns
returns c = ready_is_least
