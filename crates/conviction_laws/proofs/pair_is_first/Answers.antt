use Rattle.conviction_laws.proofs.Convicted.{pair_is_first}
use Rattle.conviction_laws.proofs.pair_is_first.Goals as goal

pub returns : goal.returns
returns c = pair_is_first
