use Rattle.stop_laws.proofs.Binding.{binds_first as proved}
use Rattle.stop_laws.proofs.binds_first.Goals as goal

pub returns : goal.returns
returns c = proved
