use Rattle.witness_laws.proofs.Taken.{evidence_spares_correct}
use Rattle.witness_laws.proofs.evidence_spares_correct.Goals as goal

pub returns : goal.returns
returns c = evidence_spares_correct
