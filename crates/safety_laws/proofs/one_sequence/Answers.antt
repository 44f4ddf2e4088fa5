use Rattle.safety_laws.proofs.AllAgree.{one_sequence}
use Rattle.safety_laws.proofs.one_sequence.Goals as goal

pub returns : goal.returns
returns c = one_sequence
