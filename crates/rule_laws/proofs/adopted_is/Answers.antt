use Rattle.rule_laws.proofs.Chosen.{adopted_is}
use Rattle.rule_laws.proofs.adopted_is.Goals as goal

pub returns : goal.returns
returns c = adopted_is
