use Rattle.rule_laws.proofs.LeastIsDue.{least_is_due}
use Rattle.rule_laws.proofs.least_is_due.Goals as goal

pub returns : goal.returns
returns c = least_is_due
