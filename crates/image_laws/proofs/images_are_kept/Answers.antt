use Rattle.image_laws.proofs.Making.{images_are_kept}
use Rattle.image_laws.proofs.images_are_kept.Goals as goal

pub returns : goal.returns
returns c = images_are_kept
