use Rattle.conviction_laws.proofs.Convicted.{convicted_is_convicts}
use Rattle.conviction_laws.proofs.convicted_is_convicts.Goals as goal

pub returns : goal.returns
returns c = convicted_is_convicts
