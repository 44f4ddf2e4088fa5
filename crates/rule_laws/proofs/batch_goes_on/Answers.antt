use Rattle.rule_laws.proofs.Ordering.{batch_goes_on}
use Rattle.rule_laws.proofs.batch_goes_on.Goals as goal

pub returns : goal.returns
returns c = batch_goes_on
