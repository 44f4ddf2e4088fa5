use Rattle.sealing_laws.proofs.Sealed.{letters_can_be_sealed}
use Rattle.sealing_laws.proofs.letters_can_be_sealed.Goals as goal

pub returns : goal.returns
returns c = letters_can_be_sealed
