use Rattle.rule_laws.proofs.Ends.{lasts_by_member}
use Rattle.rule_laws.proofs.lasts_by_member.Goals as goal

pub returns : goal.returns
returns c = lasts_by_member
