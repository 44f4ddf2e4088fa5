use Rattle.image_laws.proofs.Turning.{in_order_is_alike}
use Rattle.image_laws.proofs.in_order_is_alike.Goals as goal

pub returns : goal.returns
returns c = in_order_is_alike
