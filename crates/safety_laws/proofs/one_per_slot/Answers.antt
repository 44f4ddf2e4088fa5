use Rattle.safety_laws.proofs.OnePerSlot.{one_per_slot}
use Rattle.safety_laws.proofs.one_per_slot.Goals as goal

pub returns : goal.returns
returns c = one_per_slot
