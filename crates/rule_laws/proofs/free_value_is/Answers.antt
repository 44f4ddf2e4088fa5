use Rattle.rule_laws.proofs.Ends.{free_value_is}
use Rattle.rule_laws.proofs.free_value_is.Goals as goal

pub returns : goal.returns
returns c = free_value_is
