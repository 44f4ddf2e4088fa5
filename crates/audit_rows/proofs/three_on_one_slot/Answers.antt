use Rattle.audit_rows.proofs.ThreeOnOneSlot.{three_on_one_slot}
use Rattle.audit_rows.proofs.three_on_one_slot.Goals as goal

pub returns : goal.returns
returns c = three_on_one_slot
