use Rattle.rule_laws.proofs.Offered.{each_due_is_offered}
use Rattle.rule_laws.proofs.each_due_is_offered.Goals as goal

pub returns : goal.returns
returns c = each_due_is_offered
