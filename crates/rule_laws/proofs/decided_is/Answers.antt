use Rattle.rule_laws.proofs.Settled.{decided_is}
use Rattle.rule_laws.proofs.decided_is.Goals as goal

pub returns : goal.returns
returns c = decided_is
