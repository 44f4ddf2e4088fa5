use Rattle.sealing_laws.proofs.Sealed.{turns_can_be_sealed}
use Rattle.sealing_laws.proofs.turns_can_be_sealed.Goals as goal

pub returns : goal.returns
returns c = turns_can_be_sealed
