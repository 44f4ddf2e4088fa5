use Rattle.image_laws.proofs.Deciding.{decision_is_kept}
use Rattle.image_laws.proofs.decision_is_kept.Goals as goal

pub returns : goal.returns
returns c = decision_is_kept
