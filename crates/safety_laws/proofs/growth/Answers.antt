use Rattle.safety_laws.proofs.GroupGrows.{growth}
use Rattle.safety_laws.proofs.growth.Goals as goal

pub returns : goal.returns
returns c = growth
