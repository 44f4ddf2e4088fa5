use Rattle.safety_laws.proofs.ReadyBeforeLast.{ready_before_last}
use Rattle.safety_laws.proofs.ready_before_last.Goals as goal

pub returns : goal.returns
returns c = ready_before_last
