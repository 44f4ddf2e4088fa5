use Rattle.image_laws.proofs.Signing.{signed_is_kept}
use Rattle.image_laws.proofs.signed_is_kept.Goals as goal

pub returns : goal.returns
returns c = signed_is_kept
