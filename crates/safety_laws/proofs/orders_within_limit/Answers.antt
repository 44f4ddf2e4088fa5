use Rattle.safety_laws.proofs.OrdersWithin.{orders_within_limit}
use Rattle.safety_laws.proofs.orders_within_limit.Goals as goal

pub returns : goal.returns
returns c = orders_within_limit
