use Rattle.safety_laws.proofs.OwnPayloads.{cause_and_order}
use Rattle.safety_laws.proofs.cause_and_order.Goals as goal

pub returns : goal.returns
returns c = cause_and_order
