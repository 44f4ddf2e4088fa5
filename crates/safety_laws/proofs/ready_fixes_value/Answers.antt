use Rattle.safety_laws.proofs.ReadyFixesValue.{ready_fixes_value}
use Rattle.safety_laws.proofs.ready_fixes_value.Goals as goal

pub returns : goal.returns
returns c = ready_fixes_value
