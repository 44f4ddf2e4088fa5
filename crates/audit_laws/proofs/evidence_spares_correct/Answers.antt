use Rattle.audit_laws.proofs.Spared.{evidence_spares_correct}
use Rattle.audit_laws.proofs.evidence_spares_correct.Goals as goal

pub returns : goal.returns
returns c = evidence_spares_correct
