use Rattle.rule_laws.proofs.Settled.{any_is_found}
use Rattle.rule_laws.proofs.any_is_found.Goals as goal

pub returns : goal.returns
returns c = any_is_found
