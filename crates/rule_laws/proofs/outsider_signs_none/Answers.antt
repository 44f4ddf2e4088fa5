use Rattle.rule_laws.proofs.Outside.{outsider_signs_none}
use Rattle.rule_laws.proofs.outsider_signs_none.Goals as goal

pub returns : goal.returns
returns c = outsider_signs_none
