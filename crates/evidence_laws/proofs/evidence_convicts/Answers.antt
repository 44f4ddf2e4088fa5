use Rattle.evidence_laws.proofs.Evidence.{evidence_convicts}
use Rattle.evidence_laws.proofs.evidence_convicts.Goals as goal

pub returns : goal.returns
returns c = evidence_convicts
