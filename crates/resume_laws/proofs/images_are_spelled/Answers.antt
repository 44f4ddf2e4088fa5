use Rattle.resume_laws.proofs.Spelled.{images_are_spelled}
use Rattle.resume_laws.proofs.images_are_spelled.Goals as goal

pub returns : goal.returns
returns c = images_are_spelled
