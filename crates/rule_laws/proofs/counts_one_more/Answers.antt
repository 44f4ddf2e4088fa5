use Rattle.rule_laws.proofs.Ordering.{counts_one_more}
use Rattle.rule_laws.proofs.counts_one_more.Goals as goal

pub returns : goal.returns
returns c = counts_one_more
