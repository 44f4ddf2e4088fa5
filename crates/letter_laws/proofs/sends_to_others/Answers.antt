use Rattle.letter_laws.proofs.Addressees.{sends_to_others}
use Rattle.letter_laws.proofs.sends_to_others.Goals as goal

pub returns : goal.returns
returns c = sends_to_others
