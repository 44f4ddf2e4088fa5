use Rattle.resume_laws.proofs.GivenBack.{snaps_give_back as proved}
use Rattle.resume_laws.proofs.snaps_give_back.Goals as goal

pub returns : goal.returns
returns c = proved
