use Rattle.sealing_laws.proofs.Sealed.{sends_can_be_sealed}
use Rattle.sealing_laws.proofs.sends_can_be_sealed.Goals as goal

pub returns : goal.returns
returns c = sends_can_be_sealed
