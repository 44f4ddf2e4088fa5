use Rattle.image_laws.proofs.Turning.{runs_pair_once}
use Rattle.image_laws.proofs.runs_pair_once.Goals as goal

pub returns : goal.returns
returns c = runs_pair_once
