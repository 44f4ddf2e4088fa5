use Rattle.witness_laws.proofs.Spelled.{evidence_convicts}
use Rattle.witness_laws.proofs.evidence_convicts.Goals as goal

pub returns : goal.returns
returns c = evidence_convicts
