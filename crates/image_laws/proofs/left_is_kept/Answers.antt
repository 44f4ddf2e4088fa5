use Rattle.image_laws.proofs.Leaving.{left_is_kept}
use Rattle.image_laws.proofs.left_is_kept.Goals as goal

pub returns : goal.returns
returns c = left_is_kept
