use Rattle.rule_laws.proofs.Ordering.{follows_whole}
use Rattle.rule_laws.proofs.follows_whole.Goals as goal

pub returns : goal.returns
returns c = follows_whole
