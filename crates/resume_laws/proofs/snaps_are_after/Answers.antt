use Rattle.resume_laws.proofs.Snapping.{snaps_are_after as proved}
use Rattle.resume_laws.proofs.snaps_are_after.Goals as goal

pub returns : goal.returns
returns c = proved
