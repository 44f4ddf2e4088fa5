use Rattle.image_laws.proofs.Placing.{placed_is_kept}
use Rattle.image_laws.proofs.placed_is_kept.Goals as goal

pub returns : goal.returns
returns c = placed_is_kept
