use Rattle.safety_laws.proofs.CertifiedIsBacked.{certified_is_backed}
use Rattle.safety_laws.proofs.certified_is_backed.Goals as goal

pub returns : goal.returns
returns c = certified_is_backed
