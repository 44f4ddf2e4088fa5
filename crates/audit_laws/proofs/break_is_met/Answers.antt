use Rattle.audit_laws.proofs.Walked.{break_is_met}
use Rattle.audit_laws.proofs.break_is_met.Goals as goal

pub returns : goal.returns
returns c = break_is_met
