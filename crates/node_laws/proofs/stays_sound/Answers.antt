use Rattle.node_laws.proofs.Soundness.{stays_sound}
use Rattle.node_laws.proofs.stays_sound.Goals as goal

pub returns : goal.returns
returns c = stays_sound
