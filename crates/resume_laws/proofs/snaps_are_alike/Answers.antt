use Rattle.resume_laws.proofs.Resuming.{snaps_are_alike as proved}
use Rattle.resume_laws.proofs.snaps_are_alike.Goals as goal

pub returns : goal.returns
returns c = proved
