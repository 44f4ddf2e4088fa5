use Rattle.rule_laws.proofs.Ordering.{batch_is_full}
use Rattle.rule_laws.proofs.batch_is_full.Goals as goal

pub returns : goal.returns
returns c = batch_is_full
