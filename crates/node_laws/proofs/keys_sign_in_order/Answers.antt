use Rattle.node_laws.proofs.InOrder.{keys_sign_in_order}
use Rattle.node_laws.proofs.keys_sign_in_order.Goals as goal

pub returns : goal.returns
returns c = keys_sign_in_order
