use Rattle.rule_laws.proofs.Least.{none_of_all}
use Rattle.rule_laws.proofs.none_of_all.Goals as goal

pub returns : goal.returns
returns c = none_of_all
