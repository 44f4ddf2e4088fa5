use Rattle.rule_laws.proofs.Outside.{ended_signs_none}
use Rattle.rule_laws.proofs.ended_signs_none.Goals as goal

pub returns : goal.returns
returns c = ended_signs_none
