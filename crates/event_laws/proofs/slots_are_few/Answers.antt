use Rattle.event_laws.proofs.Slots.{slots_are_few}
use Rattle.event_laws.proofs.slots_are_few.Goals as goal

pub returns : goal.returns
returns c = slots_are_few
