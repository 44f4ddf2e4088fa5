use Rattle.rule_laws.proofs.Settled.{deliverable_is}
use Rattle.rule_laws.proofs.deliverable_is.Goals as goal

pub returns : goal.returns
returns c = deliverable_is
