use Rattle.conviction_laws.proofs.Convicted.{convictions_stand}
use Rattle.conviction_laws.proofs.convictions_stand.Goals as goal

pub returns : goal.returns
returns c = convictions_stand
