use Rattle.sealing_laws.proofs.Sealed.{keyed_turns_can_be_sealed}
use Rattle.sealing_laws.proofs.keyed_turns_can_be_sealed.Goals as goal

pub returns : goal.returns
returns c = keyed_turns_can_be_sealed
