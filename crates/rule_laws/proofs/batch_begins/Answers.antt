use Rattle.rule_laws.proofs.Ordering.{batch_begins}
use Rattle.rule_laws.proofs.batch_begins.Goals as goal

pub returns : goal.returns
returns c = batch_begins
