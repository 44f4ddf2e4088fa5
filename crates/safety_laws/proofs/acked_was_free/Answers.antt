use Rattle.safety_laws.proofs.KeptBelowCut.{acked_was_free}
use Rattle.safety_laws.proofs.acked_was_free.Goals as goal

pub returns : goal.returns
returns c = acked_was_free
