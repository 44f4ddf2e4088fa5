use Rattle.audit_rows.proofs.OpenGate.{open_gate}
use Rattle.audit_rows.proofs.open_gate.Goals as goal

pub returns : goal.returns
returns c = open_gate
