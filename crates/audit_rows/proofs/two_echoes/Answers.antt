use Rattle.audit_rows.proofs.TwoEchoes.{two_echoes}
use Rattle.audit_rows.proofs.two_echoes.Goals as goal

pub returns : goal.returns
returns c = two_echoes
