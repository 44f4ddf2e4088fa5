use Rattle.letter_laws.proofs.Addressees.{start_is_keyed}
use Rattle.letter_laws.proofs.start_is_keyed.Goals as goal

pub returns : goal.returns
returns c = start_is_keyed
