use Rattle.resume_laws.proofs.Taking.{snapshots_are_taken as proved}
use Rattle.resume_laws.proofs.snapshots_are_taken.Goals as goal

pub returns : goal.returns
returns c = proved
