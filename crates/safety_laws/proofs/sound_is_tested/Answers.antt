use Rattle.safety_laws.proofs.SoundTested.{sound_is_tested}
use Rattle.safety_laws.proofs.sound_is_tested.Goals as goal

pub returns : goal.returns
returns c = sound_is_tested
