use Rattle.opening_laws.proofs.Opened.{opens_in_order as proved}
use Rattle.opening_laws.proofs.opens_in_order.Goals as goal

pub returns : goal.returns
returns c = proved
