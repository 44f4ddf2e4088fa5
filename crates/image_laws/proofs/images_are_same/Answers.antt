use Rattle.image_laws.proofs.Turning.{images_are_same}
use Rattle.image_laws.proofs.images_are_same.Goals as goal

pub returns : goal.returns
returns c = images_are_same
