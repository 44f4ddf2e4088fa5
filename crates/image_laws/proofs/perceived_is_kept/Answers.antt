use Rattle.image_laws.proofs.Perceiving.{perceived_is_kept}
use Rattle.image_laws.proofs.perceived_is_kept.Goals as goal

pub returns : goal.returns
returns c = perceived_is_kept
