use Rattle.audit_rows.proofs.TornGate.{torn_gate}
use Rattle.audit_rows.proofs.torn_gate.Goals as goal

pub returns : goal.returns
returns c = torn_gate
