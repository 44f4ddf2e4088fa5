use Rattle.letting_laws.proofs.Machine.{each_lets_out}
use Rattle.letting_laws.proofs.each_lets_out.Goals as goal

pub returns : goal.returns
returns c = each_lets_out
