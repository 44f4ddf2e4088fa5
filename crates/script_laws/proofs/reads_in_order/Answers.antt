use Rattle.script_laws.proofs.Reading.{reads_in_order as proved}
use Rattle.script_laws.proofs.reads_in_order.Goals as goal

pub returns : goal.returns
returns c = proved
