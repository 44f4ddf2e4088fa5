use Rattle.rule_laws.proofs.Choosing.{deputy_adopts}
use Rattle.rule_laws.proofs.deputy_adopts.Goals as goal

pub returns : goal.returns
returns c = deputy_adopts
