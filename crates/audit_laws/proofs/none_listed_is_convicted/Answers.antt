use Rattle.audit_laws.proofs.Spared.{none_listed_is_convicted}
use Rattle.audit_laws.proofs.none_listed_is_convicted.Goals as goal

pub returns : goal.returns
returns c = none_listed_is_convicted
