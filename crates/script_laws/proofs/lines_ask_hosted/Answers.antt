use Rattle.script_laws.proofs.Asked.{lines_ask_hosted as proved}
use Rattle.script_laws.proofs.lines_ask_hosted.Goals as goal

pub returns : goal.returns
returns c = proved
