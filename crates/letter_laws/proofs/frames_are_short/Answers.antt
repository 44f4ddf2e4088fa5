use Rattle.letter_laws.proofs.Claims.{frames_are_short}
use Rattle.letter_laws.proofs.frames_are_short.Goals as goal

pub returns : goal.returns
returns c = frames_are_short
