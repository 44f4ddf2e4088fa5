use Rattle.image_laws.proofs.Making.{runs_fit}
use Rattle.image_laws.proofs.runs_fit.Goals as goal

pub returns : goal.returns
returns c = runs_fit
