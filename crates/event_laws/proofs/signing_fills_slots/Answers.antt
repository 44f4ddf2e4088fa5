use Rattle.event_laws.proofs.Once.{signing_fills_slots}
use Rattle.event_laws.proofs.signing_fills_slots.Goals as goal

pub returns : goal.returns
returns c = signing_fills_slots
