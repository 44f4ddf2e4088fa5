use Rattle.group_rows.proofs.OrdersAhead.{orders_ahead}
use Rattle.group_rows.proofs.orders_ahead.Goals as goal

pub returns : goal.returns
returns c = orders_ahead
