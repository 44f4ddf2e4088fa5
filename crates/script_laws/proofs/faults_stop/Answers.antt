use Rattle.script_laws.proofs.Stopping.{faults_stop as proved}
use Rattle.script_laws.proofs.faults_stop.Goals as goal

pub returns : goal.returns
returns c = proved
