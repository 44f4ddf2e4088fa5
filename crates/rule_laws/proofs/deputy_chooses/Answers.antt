use Rattle.rule_laws.proofs.Choosing.{deputy_chooses}
use Rattle.rule_laws.proofs.deputy_chooses.Goals as goal

pub returns : goal.returns
returns c = deputy_chooses
