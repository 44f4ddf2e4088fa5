use Rattle.rule_laws.proofs.Ordering.{follows_on}
use Rattle.rule_laws.proofs.follows_on.Goals as goal

pub returns : goal.returns
returns c = follows_on
