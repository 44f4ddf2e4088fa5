use Rattle.front_laws.proofs.Fronts.{fronts_go_on as proved}
use Rattle.front_laws.proofs.fronts_go_on.Goals as goal

pub returns : goal.returns
returns c = proved
