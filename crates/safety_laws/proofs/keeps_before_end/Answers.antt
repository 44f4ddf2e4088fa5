use Rattle.safety_laws.proofs.KeepsBeforeEnd.{keeps_before_end}
use Rattle.safety_laws.proofs.keeps_before_end.Goals as goal

pub returns : goal.returns
returns c = keeps_before_end
