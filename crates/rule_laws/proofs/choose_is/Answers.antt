use Rattle.rule_laws.proofs.Chosen.{choose_is}
use Rattle.rule_laws.proofs.choose_is.Goals as goal

pub returns : goal.returns
returns c = choose_is
