use Rattle.stop_laws.proofs.Stopping.{stops_only_so as proved}
use Rattle.stop_laws.proofs.stops_only_so.Goals as goal

pub returns : goal.returns
returns c = proved
