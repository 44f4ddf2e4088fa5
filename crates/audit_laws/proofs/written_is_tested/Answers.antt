use Rattle.audit_laws.proofs.Written.{written_is_tested}
use Rattle.audit_laws.proofs.written_is_tested.Goals as goal

pub returns : goal.returns
returns c = written_is_tested
