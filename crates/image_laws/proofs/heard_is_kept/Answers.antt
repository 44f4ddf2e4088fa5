use Rattle.image_laws.proofs.Hearing.{heard_is_kept}
use Rattle.image_laws.proofs.heard_is_kept.Goals as goal

pub returns : goal.returns
returns c = heard_is_kept
