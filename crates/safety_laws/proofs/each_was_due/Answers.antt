use Rattle.safety_laws.proofs.EachWasDue.{each_was_due}
use Rattle.safety_laws.proofs.each_was_due.Goals as goal

pub returns : goal.returns
returns c = each_was_due
