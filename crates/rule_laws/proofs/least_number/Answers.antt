use Rattle.rule_laws.proofs.Numbers.{least_number}
use Rattle.rule_laws.proofs.least_number.Goals as goal

pub returns : goal.returns
returns c = least_number
