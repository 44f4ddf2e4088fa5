use Rattle.rule_laws.proofs.Ordering.{follows_begins}
use Rattle.rule_laws.proofs.follows_begins.Goals as goal

pub returns : goal.returns
returns c = follows_begins
