use Rattle.resume_laws.proofs.Refusing.{opens_exactly as proved}
use Rattle.resume_laws.proofs.opens_exactly.Goals as goal

pub returns : goal.returns
returns c = proved
