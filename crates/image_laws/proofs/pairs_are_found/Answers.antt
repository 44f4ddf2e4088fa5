use Rattle.image_laws.proofs.Turning.{pairs_are_found}
use Rattle.image_laws.proofs.pairs_are_found.Goals as goal

pub returns : goal.returns
returns c = pairs_are_found
