use Rattle.image_laws.proofs.Restoring.{process_is_restored}
use Rattle.image_laws.proofs.process_is_restored.Goals as goal

pub returns : goal.returns
returns c = process_is_restored
