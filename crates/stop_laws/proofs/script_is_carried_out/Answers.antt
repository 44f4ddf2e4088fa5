use Rattle.stop_laws.proofs.Carried.{script_is_carried_out as proved}
use Rattle.stop_laws.proofs.script_is_carried_out.Goals as goal

pub returns : goal.returns
returns c = proved
