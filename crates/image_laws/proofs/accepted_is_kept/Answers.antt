use Rattle.image_laws.proofs.Accepting.{accepted_is_kept}
use Rattle.image_laws.proofs.accepted_is_kept.Goals as goal

pub returns : goal.returns
returns c = accepted_is_kept
