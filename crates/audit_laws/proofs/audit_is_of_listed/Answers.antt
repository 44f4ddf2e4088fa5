use Rattle.audit_laws.proofs.OfListed.{audit_is_of_listed}
use Rattle.audit_laws.proofs.audit_is_of_listed.Goals as goal

pub returns : goal.returns
returns c = audit_is_of_listed
