use Rattle.guard_laws.proofs.Grounds.{expelled_is_convicted}
use Rattle.guard_laws.proofs.expelled_is_convicted.Goals as goal

pub returns : goal.returns
returns c = expelled_is_convicted
