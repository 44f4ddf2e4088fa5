use Rattle.rule_laws.proofs.Deputies.{ack_is_least}
use Rattle.rule_laws.proofs.ack_is_least.Goals as goal

pub returns : goal.returns
returns c = ack_is_least
