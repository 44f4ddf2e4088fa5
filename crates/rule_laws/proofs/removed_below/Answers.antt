use Rattle.rule_laws.proofs.Settled.{removed_below}
use Rattle.rule_laws.proofs.removed_below.Goals as goal

pub returns : goal.returns
returns c = removed_below
