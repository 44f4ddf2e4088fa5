use Rattle.rule_laws.proofs.Keeping.{keep_is_least}
use Rattle.rule_laws.proofs.keep_is_least.Goals as goal

pub returns : goal.returns
returns c = keep_is_least
