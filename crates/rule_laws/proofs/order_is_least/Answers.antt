use Rattle.rule_laws.proofs.Ordering.{order_is_least}
use Rattle.rule_laws.proofs.order_is_least.Goals as goal

pub returns : goal.returns
returns c = order_is_least
