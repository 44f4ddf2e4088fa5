use Rattle.resume_laws.proofs.Said.{snaps_are_read as proved}
use Rattle.resume_laws.proofs.snaps_are_read.Goals as goal

pub returns : goal.returns
returns c = proved
