use Rattle.image_laws.proofs.Turning.{restored_is_alike}
use Rattle.image_laws.proofs.restored_is_alike.Goals as goal

pub returns : goal.returns
returns c = restored_is_alike
