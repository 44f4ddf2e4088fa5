use Rattle.rule_laws.proofs.Ends.{ends_by_member}
use Rattle.rule_laws.proofs.ends_by_member.Goals as goal

pub returns : goal.returns
returns c = ends_by_member
