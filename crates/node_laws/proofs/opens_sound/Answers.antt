use Rattle.node_laws.proofs.Openings.{opens_sound}
use Rattle.node_laws.proofs.opens_sound.Goals as goal

pub returns : goal.returns
returns c = opens_sound
