use Rattle.group_rows.proofs.OrderBehind.{order_behind}
use Rattle.group_rows.proofs.order_behind.Goals as goal

pub returns : goal.returns
returns c = order_behind
