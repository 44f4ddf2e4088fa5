use Rattle.conviction_laws.proofs.Convicted.{conviction_is_tested}
use Rattle.conviction_laws.proofs.conviction_is_tested.Goals as goal

pub returns : goal.returns
returns c = conviction_is_tested
