use Rattle.image_laws.proofs.Turning.{turns_are_alike}
use Rattle.image_laws.proofs.turns_are_alike.Goals as goal

pub returns : goal.returns
returns c = turns_are_alike
