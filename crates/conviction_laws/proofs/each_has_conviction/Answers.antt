use Rattle.conviction_laws.proofs.Convicted.{each_has_conviction}
use Rattle.conviction_laws.proofs.each_has_conviction.Goals as goal

pub returns : goal.returns
returns c = each_has_conviction
