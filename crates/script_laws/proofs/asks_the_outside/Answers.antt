use Rattle.script_laws.proofs.Service.{asks_the_outside as proved}
use Rattle.script_laws.proofs.asks_the_outside.Goals as goal

pub returns : goal.returns
returns c = proved
