use Rattle.image_laws.proofs.Turning.{runs_are_alike}
use Rattle.image_laws.proofs.runs_are_alike.Goals as goal

pub returns : goal.returns
returns c = runs_are_alike
