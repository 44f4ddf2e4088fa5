use Rattle.rule_laws.proofs.Ordering.{next_by_counts}
use Rattle.rule_laws.proofs.next_by_counts.Goals as goal

pub returns : goal.returns
returns c = next_by_counts
