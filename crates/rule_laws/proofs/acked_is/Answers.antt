use Rattle.rule_laws.proofs.Chosen.{acked_is}
use Rattle.rule_laws.proofs.acked_is.Goals as goal

pub returns : goal.returns
returns c = acked_is
