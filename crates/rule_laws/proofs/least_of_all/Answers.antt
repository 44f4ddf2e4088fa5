use Rattle.rule_laws.proofs.Least.{least_of_all}
use Rattle.rule_laws.proofs.least_of_all.Goals as goal

pub returns : goal.returns
returns c = least_of_all
